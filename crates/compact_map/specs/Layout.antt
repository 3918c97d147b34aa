-- what slots hold once nodes are set into them, one after another in number order: the layout of the nodes. There are
-- 2 ^ l slots, S i is what slot i holds, K v is the key of node v, and node 0 takes no slot
use Rattle.std.specs.Prelude.{ℕ, zero, suc, ◌+◌, ◌*◌, ◌%◌, ◌^◌, cond, List, ◌==◌, nat_lt}
use Rattle.rules.specs.declared.step.Step.{Step}
use Rattle.rules.specs.Steps.{symbol_count}
use Rattle.rules.specs.Tree.{Edge, edge_of}
use Rattle.compact_map.specs.Hash.{home_of, quotient_of}
use Rattle.compact_map.specs.Slots.{packed}

-- the slot d places on from home, of m slots, going round
abbrev pub onward : ℕ → ℕ → ℕ → ℕ
onward m home d = (home + d) % m

-- how far from home the first empty slot is, when d places are passed and so many are left to try
unfoldable pub seek : ℕ → (ℕ → ℕ) → ℕ → ℕ → ℕ → ℕ
seek m S home zero d = d
seek m S home (suc left) d = cond (nat_lt (S (onward m home d)) (2 ^ 47)) d (seek m S home left (suc d))

abbrev pub displacement_for : Step → ℕ → (ℕ → ℕ) → ℕ → ℕ
displacement_for step l S key = seek (2 ^ l) S (home_of step l key) (2 ^ l) 0

-- the slot that a key goes into
abbrev pub slot_for : Step → ℕ → (ℕ → ℕ) → ℕ → ℕ
slot_for step l S key = onward (2 ^ l) (home_of step l key) (displacement_for step l S key)

-- what is written there for node v
abbrev pub word_for : Step → ℕ → (ℕ → ℕ) → ℕ → ℕ → ℕ
word_for step l S v key = packed (quotient_of step l key) (displacement_for step l S key) v

-- what slot i holds once the nodes 1 to n are set
unfoldable pub layout : Step → ℕ → (ℕ → ℕ) → ℕ → ℕ → ℕ
layout step l K zero i = 0
layout step l K (suc n) i = cond (i == slot_for step l (layout step l K n) (K (suc n))) (word_for step l (layout step l K n) (suc n) (K (suc n))) (layout step l K n i)

-- the slot of node v
unfoldable pub place_of : Step → ℕ → (ℕ → ℕ) → ℕ → ℕ
place_of step l K zero = 0
place_of step l K (suc n) = slot_for step l (layout step l K n) (K (suc n))

-- the key of node v
abbrev pub key_of : Step → List Edge → ℕ → ℕ
key_of step edges v = symbol_count step * (edge_of edges v).parent + (edge_of edges v).symbol
