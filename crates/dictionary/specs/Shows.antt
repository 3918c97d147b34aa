-- when a node map, a label store and a shelf show an arrival book
use Rattle.std.specs.Prelude.{◌≡◌, ℕ, ◌<◌, ◌≤◌, Bool, cond, ◌&&◌, List, [], ◌∷◌, length, Some, None, Ok, Err, Option, Result, ◌==◌, nat_le, slice_index_or}
use Rattle.tags.specs.declared.refusal.Refusal.{Refusal}
use Rattle.tags.specs.declared.refusal.Refusal.TheVariants.{UnfitParts}
use Rattle.rules.specs.declared.step.Step.TheVariants.{By32}
use Rattle.rules.specs.declared.answers.Held.{Held}
use Rattle.rules.specs.Tree.{Tree, tree_of}
use Rattle.rules.specs.Book.{Row, tags_of}
use Rattle.rules.specs.Calls.{Book}
use Rattle.rules.specs.Laws.{Sound}
use Rattle.parts.specs.Maps.{Map, count_of, last_room}
use Rattle.parts.specs.Stores.{Store}

-- the nodes and labels that lie in a map and a store
abbrev pub tree_in : Map → Store → Tree
tree_in m l = record { edges = m.edges; labels = l.labels }

-- what belongs on the shelf at place n: the value of the row with that ticket, else nothing
unfoldable pub value_with : {V : Type 0} → List (Row V) → ℕ → Option V
value_with [] n = None
value_with (r ∷ rs) n = cond (r.ticket == n) r.value (value_with rs n)

-- the row with a ticket that holds a value, if there is a value
abbrev pub held_with : {V : Type 0} → ℕ → Option V → Option (Held V)
held_with ticket None = None
held_with ticket (Some value) = Some (record { ticket = ticket; value = value })

pub record Shows {V : Type 0} (m : Map) (l : Store) (s : List (Option V)) (b : Book V) : Type 0 where
  -- the rows are those of their own tags, entered in order, and the steps are of 32
  pub sound : Sound b
  pub step : b.step ≡ By32
  -- nodes and labels are those of the tree of the rows' tags: node 0 and no label where there are no rows
  pub tree : tree_in m l ≡ tree_of By32 (tags_of b.rows)
  -- every place of the shelf
  pub values : (n : ℕ) → n < length s → slice_index_or s n None ≡ value_with b.rows n
  -- the rooms are the book's
  pub room : m.room ≡ b.room
  pub coming : m.coming ≡ b.coming
  pub byte_room : l.byte_room ≡ b.byte_room
  -- each node that there will ever be has a place for its label and its value
  pub label_places : last_room m ≤ l.places
  pub value_places : last_room m ≤ length s

-- how many labels and values there is space for
pub record Extent : Type 0 where
  pub labels : ℕ
  pub values : ℕ

abbrev pub extent_of : {V : Type 0} → Store → List (Option V) → Extent
extent_of l s = record { labels = l.places; values = length s }

-- parts fit where the map has node 0 alone, the store has no label, and both store and shelf have a place for every node
abbrev pub fits : {V : Type 0} → Map → Store → List (Option V) → Bool
fits m l s = count_of m == 1 && (length l.labels == 0 && (nat_le (last_room m) l.places && nat_le (last_room m) (length s)))

abbrev pub open_answer : {V : Type 0} → Map → Store → List (Option V) → Result (Unit {0}) Refusal
open_answer m l s = cond (fits m l s) (Ok tt) (Err UnfitParts)

-- the book of a dictionary just opened: no rows, and the rooms of map and store as they stand
abbrev pub fresh_book : {V : Type 0} → Map → Store → Book V
fresh_book m l = record { step = By32; rows = []; room = m.room; coming = m.coming; byte_room = l.byte_room }
