-- numbers in bytes, the most significant byte first
use Rattle.std.specs.Prelude.{◌≡◌, ℕ, zero, suc, ◌+◌, ◌-◌, ◌*◌, ◌/◌, ◌%◌, ◌^◌, ◌<◌, ◌≤◌, List, slice_index}

-- byte j of so many bytes that hold x
abbrev pub byte_of : ℕ → ℕ → ℕ → ℕ
byte_of count x j = x / 2 ^ (8 * (count - 1 - j)) % 256

-- the number that so many bytes from a place on hold
unfoldable pub number_at : List ℕ → ℕ → ℕ → ℕ
number_at bs at zero = 0
number_at bs at (suc count) = number_at bs at count * 256 + slice_index bs (at + count)

-- what writing x into so many bytes leaves
pub record Written (count : ℕ) (old new : List ℕ) (at x : ℕ) : Type 0 where
  pub here : (j : ℕ) → j < count → slice_index new (at + j) ≡ byte_of count x j
  pub below : (k : ℕ) → k < at → slice_index new k ≡ slice_index old k
  pub above : (k : ℕ) → at + count ≤ k → slice_index new k ≡ slice_index old k
