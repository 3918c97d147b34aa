-- what a compact map means
use Rattle.std.specs.Prelude.{ℕ, ◌*◌, ◌/◌, ◌%◌, ◌^◌, List, map}
use Rattle.std.specs.List.{range_with_len}
use Rattle.rules.specs.declared.step.Step.{Step}
use Rattle.rules.specs.declared.step.Step.TheVariants.{By32}
use Rattle.rules.specs.Steps.{symbol_count}
use Rattle.rules.specs.Tree.{Edge}
use Rattle.parts.specs.Maps.{Map}
use Rattle.parts.specs.Sizes.{rooms_to}
use Rattle.compact_map.specs.Table.{key_in}
use Rattle.compact_map.specs.declared.shape.CompactMap.{CompactMap}

-- so many slots are taken by at most nine tenths
abbrev pub capacity : ℕ → ℕ
capacity slots = 9 * slots / 10

-- the edges of the nodes 1 to n, by their keys
abbrev pub edge_for : Step → (ℕ → ℕ) → ℕ → Edge
edge_for step K v = record { parent = K v / symbol_count step; symbol = K v % symbol_count step }

abbrev pub edges_for : Step → (ℕ → ℕ) → ℕ → List Edge
edges_for step K n = map (edge_for step K) (range_with_len 1 n)

abbrev pub bytes_of : CompactMap → List ℕ
bytes_of c = c.bytes.now

-- the keys that the bytes show
abbrev pub keys_of : CompactMap → ℕ → ℕ
keys_of c = key_in By32 (bytes_of c) c.set.log c.set.large

abbrev pub meaning_of : CompactMap → Map
meaning_of c = record {
  edges = edges_for By32 (keys_of c) c.later;
  room = capacity (2 ^ c.set.log);
  coming = rooms_to capacity c.set.log c.top;
}
