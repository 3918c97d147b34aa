-- text that is written into lent bytes as far as they go
use Rattle.std.specs.Prelude.{◌≡◌, ℕ, ◌+◌, ◌-◌, ◌^◌, min, List, [], ◌∷◌, ◌++◌, length, take, drop}
use Rattle.session.specs.declared.output.Output.{Output}

-- text laid over bytes: where they are fewer, what fits; where they are more, those beyond the text stay
abbrev pub over : List ℕ → List ℕ → List ℕ
over [] held = held
over (b ∷ text) [] = []
over (b ∷ text) (h ∷ held) = b ∷ over text held

-- a count of bytes stops at the largest number of 64 bits
abbrev pub counted : ℕ → ℕ
counted n = min n (2 ^ 64 - 1)

-- the text was laid over the bytes from where the last ended, and counted on; the bytes are those that were lent
pub record Wrote (before : Output) (text : List ℕ) (after : Output) : Type 0 where
  pub same : after.out.ghost_name ≡ before.out.ghost_name
  pub bytes : after.out.now ≡ take before.at before.out.now ++ over text (drop before.at before.out.now)
  pub count : after.at ≡ counted (before.at + length text)

-- the text was laid over the bytes, and counted, whether it fits or not
pub record Printed (text out out' : List ℕ) (count : ℕ) : Type 0 where
  pub bytes : out' ≡ over text out
  pub total : count ≡ counted (length text)
