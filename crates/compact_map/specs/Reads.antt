-- what a slot's six bytes are read as
use Rattle.std.specs.Prelude.{◌≡◌, ℕ, ◌^◌, ◌<◌, ◌≤◌, Some, None, Option}
use Rattle.compact_map.specs.Slots.{quotient_in, displacement_in, number_in}
use Rattle.compact_map.specs.declared.slot.Slot.{Slot}

-- a taken slot
pub record Read (w : ℕ) (slot : Slot) : Type 0 where
  pub taken : 2 ^ 47 ≤ w
  pub quotient : slot.quotient ≡ quotient_in w
  pub displacement : slot.displacement ≡ displacement_in w
  pub number : slot.number ≡ number_in w

-- or an empty one
abbrev pub Reads : ℕ → Option Slot → Type 0
Reads w (Some slot) = Read w slot
Reads w None = w < 2 ^ 47
