-- what node records hold
use Rattle.std.specs.Prelude.{◌≡◌, ℕ, zero, suc, ◌<◌, ◌≤◌, cond, List, ◌++◌, map, length, drop, Some, None, Option, ◌==◌, slice_index_or}
use Rattle.std.specs.List.{range_with_len}
use Rattle.rules.specs.declared.step.Step.TheVariants.{By32}
use Rattle.rules.specs.Steps.{symbol_count}
use Rattle.rules.specs.Tree.{Edge, node_count, edge_of}
use Rattle.sibling_map.specs.declared.record.NodeRecord.{NodeRecord}

-- the newest of the nodes 1 to n that has the parent u, where p v is the parent of v
unfoldable pub newest : (ℕ → ℕ) → ℕ → ℕ → Option ℕ
newest p zero u = None
newest p (suc n) u = cond (p (suc n) == u) (Some (suc n)) (newest p n u)

abbrev pub parent_of : List Edge → ℕ → ℕ
parent_of edges v = (edge_of edges v).parent

-- the record of a node: its first child is its newest, and its next sibling is the newest older child of its parent
abbrev pub record_of : List Edge → ℕ → NodeRecord
record_of edges zero = record { parent = 0; symbol = 0; first = newest (parent_of edges) (length edges) 0; next = None }
record_of edges (suc w) = record {
  parent = (edge_of edges (suc w)).parent;
  symbol = (edge_of edges (suc w)).symbol;
  first = newest (parent_of edges) (length edges) (suc w);
  next = newest (parent_of edges) w (parent_of edges (suc w));
}

-- the records of all nodes, and past them what the list held
abbrev pub laid_out : List Edge → List NodeRecord → List NodeRecord
laid_out edges old = map (record_of edges) (range_with_len 0 (node_count edges)) ++ drop (node_count edges) old

abbrev pub blank : NodeRecord
blank = record { parent = 0; symbol = 0; first = None; next = None }

abbrev pub at : List NodeRecord → ℕ → NodeRecord
at rs v = slice_index_or rs v blank

-- the edges of the nodes 1 to n, read from their records
abbrev pub edge_in : List NodeRecord → ℕ → Edge
edge_in rs v = record { parent = (at rs v).parent; symbol = (at rs v).symbol }

abbrev pub edges_in : List NodeRecord → ℕ → List Edge
edges_in rs n = map (edge_in rs) (range_with_len 1 n)

-- what holds of the edges of every node map, in the form that a struct's type takes
abbrev pub Parents : List Edge → Type 0
Parents edges = (v : ℕ) → (0 < v) × (v < node_count edges) → (edge_of edges v).parent < v

abbrev pub Symbols : List Edge → Type 0
Symbols edges = (v : ℕ) → (0 < v) × (v < node_count edges) → (edge_of edges v).symbol < symbol_count By32

abbrev pub Distinct : List Edge → Type 0
Distinct edges = (v w : ℕ)
    → (0 < v) × (v < node_count edges) × (0 < w) × (w < node_count edges) × ((edge_of edges v).parent ≡ (edge_of edges w).parent)
    × ((edge_of edges v).symbol ≡ (edge_of edges w).symbol)
    → v ≡ w

-- a number for an option, since a struct's type takes equations between numbers
abbrev pub mark : Option ℕ → ℕ
mark None = 0
mark (Some v) = suc v

abbrev pub Same : NodeRecord → NodeRecord → Type 0
Same r s = (r.parent ≡ s.parent) × (r.symbol ≡ s.symbol) × (mark r.first ≡ mark s.first) × (mark r.next ≡ mark s.next)

-- where records are in use, each of the nodes 0 to n has its own
abbrev pub Laid : ℕ → List NodeRecord → ℕ → Type 0
Laid top rs n = (v : ℕ) → (0 < top) × (v ≤ n) → Same (at rs v) (record_of (edges_in rs n) v)
