-- what the lent bytes hold: two sets of `large` slots, six bytes each, and behind them the slot of each node, two bytes
-- each
use Rattle.std.specs.Prelude.{ℕ, ◌+◌, ◌-◌, ◌*◌, ◌/◌, ◌%◌, ◌^◌, Bool, false, cond, List, map, length, Some, None, Option, nat_lt, slice_index}
use Rattle.std.specs.List.{range_with_len}
use Rattle.rules.specs.declared.step.Step.{Step}
use Rattle.rules.specs.Tree.{Edge}
use Rattle.parts.specs.Maps.{Map}
use Rattle.parts.specs.Sizes.{power_for}
use Rattle.compact_map.specs.Bytes.{byte_of}
use Rattle.compact_map.specs.Layout.{layout, place_of, key_of}

-- the first byte of 2 ^ l slots: the sets take turns, and 16 slots lie in the first
abbrev pub set_start : ℕ → ℕ → ℕ
set_start l large = l % 2 * (6 * large)

-- whether k is one of so many numbers from a first one on
abbrev pub within : ℕ → ℕ → ℕ → Bool
within first count k = cond (nat_lt k first) false (nat_lt k (first + count))

-- byte k, where it belongs to one of the 2 ^ l slots, once the nodes 1 to n are set into them. K v is the key of node v
abbrev pub slot_byte : Step → ℕ → ℕ → (ℕ → ℕ) → ℕ → ℕ → ℕ
slot_byte step l large K n k = byte_of 6 (layout step l K n ((k - set_start l large) / 6)) ((k - set_start l large) % 6)

-- byte k, where it belongs to the place of a node
abbrev pub place_byte : Step → ℕ → ℕ → (ℕ → ℕ) → ℕ → ℕ
place_byte step l large K k = byte_of 2 (place_of step l K ((k - 12 * large) / 2)) ((k - 12 * large) % 2)

-- byte k, which was `old`
unfoldable pub laid_byte : Step → ℕ → ℕ → (ℕ → ℕ) → ℕ → ℕ → ℕ → ℕ
laid_byte step l large K n old k =
    cond (within (set_start l large) (6 * 2 ^ l) k) (slot_byte step l large K n k) (cond (within (12 * large + 2) (2 * n) k) (place_byte step l large K k) old)

-- all bytes, which were `old`: those of the 2 ^ l slots are the layout of the nodes, and those of the places of the nodes
-- 1, 2, … are their slots. All others, those of the other set, of further slots, and of the places of node 0 and of nodes
-- to come, are as they were
abbrev pub laid_bytes : Step → ℕ → ℕ → List Edge → List ℕ → List ℕ
laid_bytes step l large edges old = map (λ (k : ℕ). laid_byte step l large (key_of step edges) (length edges) (slice_index old k) k) (range_with_len 0 (length old))

-- the same by the memory's size. The slots double from one room to the next, up to 2 ^ top of them. Memory of a size that
-- is refused stays as it is
abbrev pub memory_for : Step → Option ℕ → Map → List ℕ → List ℕ
memory_for step (Some top) m old = laid_bytes step (top - length m.coming) (2 ^ top) m.edges old
memory_for step None m old = old

-- what memory that was `old` holds for a map
abbrev pub memory_of : Step → Map → List ℕ → List ℕ
memory_of step m old = memory_for step (power_for (length old) 14) m old
