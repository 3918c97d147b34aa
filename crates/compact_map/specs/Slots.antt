-- what the six bytes of a slot hold
use Rattle.std.specs.Prelude.{ℕ, ◌+◌, ◌*◌, ◌/◌, ◌%◌, ◌^◌}

-- a taken slot: taken 1 bit, quotient 13, displacement 15, number 15, zeros 4. An empty slot is below 2 ^ 47
abbrev pub packed : ℕ → ℕ → ℕ → ℕ
packed q d n = 2 ^ 47 + q * 2 ^ 34 + d * 2 ^ 19 + n * 2 ^ 4

abbrev pub quotient_in : ℕ → ℕ
quotient_in w = w / 2 ^ 34 % 2 ^ 13

abbrev pub displacement_in : ℕ → ℕ
displacement_in w = w / 2 ^ 19 % 2 ^ 15

abbrev pub number_in : ℕ → ℕ
number_in w = w / 2 ^ 4 % 2 ^ 15
