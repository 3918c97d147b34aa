-- the hash of a key, its inverse, and what a table of 2 ^ l slots makes of it
use Rattle.std.specs.Prelude.{◌≡◌, ℕ, ◌+◌, ◌*◌, ◌/◌, ◌%◌, ◌^◌, bit_xor}
use Rattle.rules.specs.declared.step.Step.{Step}
use Rattle.rules.specs.declared.step.Step.TheVariants.{By32}
use Rattle.rules.specs.Steps.{symbol_count}

-- how many bits a symbol has
abbrev pub symbol_bits : Step → ℕ
symbol_bits By32 = 13

-- k xor its upper part, k div 2 ^ a, where k has z bits and a is z div 2 + 1
abbrev pub fold : ℕ → ℕ → ℕ
fold z k = bit_xor k (k / 2 ^ (z / 2 + 1))

-- the hash of a key of z bits
abbrev pub hash : ℕ → ℕ → ℕ
hash z key = fold z (key * 2654435761 % 2 ^ z)

-- the key that has this hash: 2,654,435,761 × 244,002,641 is 1 in 32 bits, and a fold is its own inverse
abbrev pub unhash : ℕ → ℕ → ℕ
unhash z h = fold z h * 244002641 % 2 ^ z

-- with 2 ^ l slots, the slot where the search for a key begins
abbrev pub home_of : Step → ℕ → ℕ → ℕ
home_of step l key = hash (symbol_bits step + l) key % 2 ^ l

-- what is kept of a key beside its home
abbrev pub quotient_of : Step → ℕ → ℕ → ℕ
quotient_of step l key = hash (symbol_bits step + l) key / 2 ^ l

-- symbols fill their bits, and key 1 in 16 slots has the home 13 and the quotient 6,032
pub record WorkedHash : Type 0 where
  pub bits : (step : Step) → symbol_count step ≡ 2 ^ symbol_bits step
  pub home : home_of By32 4 1 ≡ 13
  pub quotient : quotient_of By32 4 1 ≡ 6032
