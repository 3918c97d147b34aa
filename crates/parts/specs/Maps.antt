-- what a node map means
use Rattle.std.specs.Prelude.{◌≡◌, ℕ, ◌<◌, ◌≤◌, cond, List, [], ◌∷◌, ◌++◌, Some, None, Ok, Err, Option, Result, ◌==◌, nat_lt}
use Rattle.tags.specs.declared.refusal.MapFault.{MapFault}
use Rattle.tags.specs.declared.refusal.MapFault.TheVariants.{NoNode, SymbolTooLarge, PairTaken, RoomFull, LastRoom}
use Rattle.rules.specs.declared.step.Step.{Step}
use Rattle.rules.specs.Steps.{symbol_count}
use Rattle.rules.specs.Tree.{Edge, node_count, edge_of, child}

-- the edges of the nodes 1, 2, …, the current room and the rooms to come
pub record Map : Type 0 where
  pub edges : List Edge
  pub room : ℕ
  pub coming : List ℕ

abbrev pub count_of : Map → ℕ
count_of m = node_count m.edges

abbrev pub last_of : ℕ → List ℕ → ℕ
last_of room [] = room
last_of room (next ∷ coming) = last_of next coming

abbrev pub last_room : Map → ℕ
last_room m = last_of m.room m.coming

-- rooms rise, up to 32,768
abbrev pub Rising : ℕ → List ℕ → Type 0
Rising room [] = room ≤ 32768
Rising room (next ∷ coming) = (room < next) × Rising next coming

-- what holds of every node map: parents have smaller numbers, symbols are in bounds, no two nodes share both, and the
-- count never passes the current room
pub record MapFacts (step : Step) (m : Map) : Type 0 where
  pub parents : (v : ℕ) → 0 < v → v < count_of m → (edge_of m.edges v).parent < v
  pub symbols : (v : ℕ) → 0 < v → v < count_of m → (edge_of m.edges v).symbol < symbol_count step
  pub distinct : (v w : ℕ) → 0 < v → v < count_of m → 0 < w → w < count_of m → edge_of m.edges v ≡ edge_of m.edges w → v ≡ w
  pub fits : count_of m ≤ m.room
  pub rooms : Rising m.room m.coming

-- the first two faults of child and add: no node u, then no symbol c
abbrev pub asked : {A : Type 0} → Step → Map → ℕ → ℕ → Result A MapFault → Result A MapFault
asked step m u c answer = cond (nat_lt u (count_of m)) (cond (nat_lt c (symbol_count step)) answer (Err SymbolTooLarge)) (Err NoNode)

unfoldable pub child_answer : Step → Map → ℕ → ℕ → Result (Option ℕ) MapFault
child_answer step m u c = asked step m u c (Ok (child m.edges u c))

-- where the pair is free and the room is not full, the new node's number is the old count
abbrev pub add_free : Map → Option ℕ → Result ℕ MapFault
add_free m (Some v) = Err PairTaken
add_free m None = cond (nat_lt (count_of m) m.room) (Ok (count_of m)) (Err RoomFull)

unfoldable pub add_answer : Step → Map → ℕ → ℕ → Result ℕ MapFault
add_answer step m u c = asked step m u c (add_free m (child m.edges u c))

abbrev pub with_edge : Map → ℕ → ℕ → Map
with_edge m u c = record { edges = m.edges ++ (record { parent = u; symbol = c } ∷ []); room = m.room; coming = m.coming }

abbrev pub added : Map → ℕ → ℕ → Result ℕ MapFault → Map
added m u c (Ok v) = with_edge m u c
added m u c (Err fault) = m

unfoldable pub add_next : Step → Map → ℕ → ℕ → Map
add_next step m u c = added m u c (add_answer step m u c)

unfoldable pub up_answer : Map → ℕ → Result (ℕ × ℕ) MapFault
up_answer m v = cond (v == 0) (Err NoNode) (cond (nat_lt v (count_of m)) (Ok ((edge_of m.edges v).parent, (edge_of m.edges v).symbol)) (Err NoNode))

abbrev pub double_answer : Map → Result ℕ MapFault
double_answer m = elim m.coming [ [] ↦ Err LastRoom | room ∷ coming ↦ Ok room ]

abbrev pub double_next : Map → Map
double_next m = elim m.coming [ [] ↦ m | room ∷ coming ↦ record { edges = m.edges; room = room; coming = coming } ]

-- a new map: node 0 alone, and its first room current
abbrev pub new_map : ℕ → List ℕ → Map
new_map room coming = record { edges = []; room = room; coming = coming }
