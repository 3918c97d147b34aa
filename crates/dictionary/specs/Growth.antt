-- making nodes with their labels
use Rattle.std.specs.Prelude.{◌≡◌, ℕ, ◌+◌, ◌<◌, ◌≤◌, cond, List, length, None, Ok, Err, Result, nat_lt}
use Rattle.tags.specs.declared.refusal.Refusal.{Refusal}
use Rattle.tags.specs.declared.refusal.Refusal.TheVariants.{NoNodeRoom, NoByteRoom}
use Rattle.rules.specs.declared.step.Step.TheVariants.{By32}
use Rattle.rules.specs.Steps.{symbol_count}
use Rattle.rules.specs.Tree.{Edge, node_count, edge_of, child, bytes_in, grow}
use Rattle.parts.specs.Maps.{Map, count_of, with_edge}
use Rattle.parts.specs.Stores.{Store, longest, with_label}
use Rattle.dictionary.specs.Shows.{tree_in}
use Rattle.dictionary.specs.Looks.{Open}

-- whether there is room for so many nodes more and for the label
abbrev pub room_answer : Map → Store → ℕ → List ℕ → Result (Unit {0}) Refusal
room_answer m l nodes label =
    cond (nat_lt m.room (count_of m + nodes)) (Err NoNodeRoom) (cond (nat_lt l.byte_room (bytes_in l.labels + length label)) (Err NoByteRoom) (Ok tt))

-- a node and its label can be made
pub record CanMake (m : Map) (l : Store) (u c : ℕ) (label : List ℕ) : Type 0 where
  pub inside : u < count_of m
  pub symbol : c < symbol_count By32
  pub free : child m.edges u c ≡ None
  pub room : count_of m < m.room
  pub short : length label ≤ longest
  pub place : length l.labels < l.places
  pub bytes : bytes_in l.labels + length label ≤ l.byte_room

pub record Made (m : Map) (l : Store) (u c : ℕ) (label : List ℕ) (m' : Map) (l' : Store) (r : ℕ) : Type 0 where
  pub map_is : m' ≡ with_edge m u c
  pub store_is : l' ≡ with_label l label
  pub ticket : r ≡ count_of m

-- every parent is there
abbrev pub Closed : List Edge → Type 0
Closed edges = (v : ℕ) → 0 < v → v < node_count edges → (edge_of edges v).parent < node_count edges

-- k step nodes and the last child can be made
pub record CanGrow (m : Map) (l : Store) (u k c : ℕ) (label : List ℕ) : Type 0 where
  pub closed : Closed m.edges
  pub opened : Open m.edges u k c
  pub symbol : c < symbol_count By32
  pub room : count_of m + k < m.room
  pub counted : length l.labels ≡ count_of m
  pub places : m.room ≤ l.places
  pub short : length label ≤ longest
  pub bytes : bytes_in l.labels + length label ≤ l.byte_room

pub record Grown (m : Map) (l : Store) (u k c : ℕ) (label : List ℕ) (m' : Map) (l' : Store) (r : ℕ) : Type 0 where
  pub tree : tree_in m' l' ≡ grow By32 (tree_in m l) u k c label
  pub room : m'.room ≡ m.room
  pub coming : m'.coming ≡ m.coming
  pub byte_room : l'.byte_room ≡ l.byte_room
  pub places : l'.places ≡ l.places
  pub ticket : r ≡ count_of m + k
