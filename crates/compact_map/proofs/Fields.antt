-- the fields of a packed slot
use Rattle.std.proofs.Common.{◌≡◌, ℕ, ◌^◌, ◌<◌, arith}
use Rattle.compact_map.specs.Slots.{packed, quotient_in, displacement_in, number_in}

pub record Unpacked (q d n : ℕ) : Type 0 where
  pub quotient : quotient_in (packed q d n) ≡ q
  pub displacement : displacement_in (packed q d n) ≡ d
  pub number : number_in (packed q d n) ≡ n
  pub short : packed q d n < 2 ^ 48

pub unpacked : (q d n : ℕ) → q < 2 ^ 13 → d < 2 ^ 15 → n < 2 ^ 15 → Unpacked q d n
unpacked q d n hq hd hn = record { quotient = omega arith; displacement = omega arith; number = omega arith; short = omega arith }
