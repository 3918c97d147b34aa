-- the laws of the tree and of the book
use Rattle.std.specs.Prelude.{◌≡◌, ℕ, ◌+◌, ◌-◌, ◌/◌, ◌<◌, ◌≤◌, min, ◌⊎◌, List, [], ◌∷◌, ◌++◌, map, length, drop, replicate, Some, None, Ok, ◌≢◌, Option, slice_index}
use Rattle.tags.specs.Tags.{WellFormed, spelled}
use Rattle.rules.specs.declared.step.Step.{Step}
use Rattle.rules.specs.declared.answers.Found.{Found}
use Rattle.rules.specs.declared.answers.Held.{Held}
use Rattle.rules.specs.Steps.{size, step_symbol, branch_symbol}
use Rattle.rules.specs.Tree.{Tree, node_count, edge_of, label_of, down, Look, there, lacks, look_for, moves_of, grow, enter_tag, tree_of, climb, bytes_in}
use Rattle.rules.specs.Book.{Row, row_at, most, steps_of, nodes, label_bytes, owner_of, offset_of, needs_of, absent_moves, row_of, Arrival, rows_of, arrivals_of, tags_of}
use Rattle.rules.specs.Calls.{Book, find}
use Rattle.rules.specs.Runs.{Request, replies, book_after, but_doubles, replies_but_doubles, AllRoomy}

abbrev pub AllWellFormed : List (List ℕ) → Type 0
AllWellFormed [] = Unit {0}
AllWellFormed (tag ∷ tags) = WellFormed tag × AllWellFormed tags

-- a tag in row j: looking ends at the row's ticket after the row's moves, the ticket's label is what follows the row's
-- start, and the ticket climbs back to the spelled form
pub record FoundAt {V : Type 0} (step : Step) (t : Tree) (rows : List (Row V)) (tag : List ℕ) (j : ℕ) : Type 0 where
  pub inside : (row_at rows j).ticket < node_count t.edges
  pub ends : look_for step t tag ≡ there (row_at rows j).ticket (row_at rows j).moves
  pub few : (row_at rows j).moves ≤ length tag + 1
  pub label : label_of t (row_at rows j).ticket ≡ drop (row_at rows j).start (spelled tag)
  pub climbs : climb step t (row_at rows j).ticket ≡ spelled tag

-- the symbol of the last child that a tag in no row would get, and its label
abbrev pub last_symbol : {V : Type 0} → Step → List (Row V) → List ℕ → ℕ
last_symbol step rows tag = branch_symbol step (slice_index (spelled tag) (most (spelled tag) rows)) (offset_of rows tag)

abbrev pub last_label : {V : Type 0} → List (Row V) → List ℕ → List ℕ
last_label rows tag = drop (most (spelled tag) rows + 1) (spelled tag)

-- a tag in no row, when rows exist: looking ends below a node that is reached by step children from the owner's node;
-- what is missing there is what the tag needs, and entering makes just that
pub record AbsentBelow {V : Type 0} (step : Step) (t : Tree) (rows : List (Row V)) (tag : List ℕ) : Type 0 where
  pub node : ℕ
  pub hangs : down step t.edges (min (offset_of rows tag / size step) (steps_of step (owner_of rows tag) rows)) (row_at rows (owner_of rows tag)).ticket
      ≡ record { node = node; missing = 0 }
  pub ends : look_for step t tag ≡ lacks node (needs_of step rows tag - 1) (last_symbol step rows tag) (last_label rows tag) (absent_moves step rows tag)
  pub few : absent_moves step rows tag ≤ length tag + 1
  pub grows : enter_tag step t tag ≡ grow step t node (needs_of step rows tag - 1) (last_symbol step rows tag) (last_label rows tag)
  pub made : node_count (enter_tag step t tag).edges ≡ node_count t.edges + needs_of step rows tag
  pub labels : (enter_tag step t tag).labels ≡ t.labels ++ (replicate (needs_of step rows tag - 1) [] ++ (last_label rows tag ∷ []))

-- a node is a row's ticket or a step node, never both
abbrev pub IsTicket : {V : Type 0} → List (Row V) → ℕ → Type 0
IsTicket rows v = (j : ℕ) × (j < length rows) × ((row_at rows j).ticket ≡ v)

abbrev pub IsStep : Step → Tree → ℕ → Type 0
IsStep step t v = (0 < v) × ((edge_of t.edges v).symbol ≡ step_symbol step)

abbrev pub TicketOrStep : {V : Type 0} → Step → Tree → List (Row V) → ℕ → Type 0
TicketOrStep step t rows v = (IsTicket rows v × (IsStep step t v → ⊥)) ⊎ (IsStep step t v × (IsTicket rows v → ⊥))

-- before the first tag nothing is found, and no move is made
pub record FindsNothing (l : Look) : Type 0 where
  pub still : moves_of l ≡ 0
  pub nowhere : (node moves : ℕ) → l ≢ there node moves

-- the tree t and the rows agree, also on where looking for the tag ends
pub record Agree {V : Type 0} (step : Step) (t : Tree) (rows : List (Row V)) (tag : List ℕ) : Type 0 where
  pub count : node_count t.edges ≡ nodes rows
  pub bytes : bytes_in t.labels ≡ label_bytes rows
  pub labelled : 0 < length rows → length t.labels ≡ node_count t.edges
  pub kinds : 0 < length rows → (v : ℕ) → v < node_count t.edges → TicketOrStep step t rows v
  pub empty : length rows ≡ 0 → FindsNothing (look_for step t tag)
  pub found : (j : ℕ) → row_of rows tag ≡ Some j → FoundAt step t rows tag j
  pub absent : 0 < length rows → row_of rows tag ≡ None → AbsentBelow step t rows tag

abbrev pub arrived_tags : {V : Type 0} → List (Arrival V) → List (List ℕ)
arrived_tags {V} arrivals = map (λ (a : Arrival V). a.tag) arrivals

-- the tree of any well-formed tags agrees with the book's rows for the same arrivals
abbrev pub DescentMatchesBook : Type 0 → Type 0
DescentMatchesBook V = (step : Step) (arrivals : List (Arrival V)) → AllWellFormed (arrived_tags arrivals) → (tag : List ℕ) → WellFormed tag
    → Agree step (tree_of step (arrived_tags arrivals)) (rows_of step arrivals) tag

-- a book whose rows are those of their own tags, entered in order, and fit the byte room
pub record Sound {V : Type 0} (book : Book V) : Type 0 where
  pub rows : book.rows ≡ rows_of book.step (arrivals_of book.rows)
  pub tags : AllWellFormed (tags_of book.rows)
  pub bytes : label_bytes book.rows ≤ book.byte_room

-- looking ends at the ticket of a row that holds a value, after so many moves; where none holds one, the moves are those made
abbrev pub Ends : {V : Type 0} → Look → Option (Held V) → ℕ → Type 0
Ends l (Some row) moves = l ≡ there row.ticket moves
Ends l None moves = moves_of l ≡ moves

-- a find's answer is what looking in the tree of the rows' tags gives, and its moves are at most the tag's bytes and one
abbrev pub TrueFind : {V : Type 0} → Book V → List ℕ → Found V → Type 0
TrueFind book tag found = Ends (look_for book.step (tree_of book.step (tags_of book.rows)) tag) found.held found.moves × (found.moves ≤ length tag + 1)

-- a book with no rows is sound, a run keeps it so, and a find in a sound book that is not refused is true
pub record FindsCountMoves (V : Type 0) : Type 0 where
  pub fresh : (book : Book V) → book.rows ≡ [] → Sound book
  pub kept : (book : Book V) (qs : List (Request V)) → Sound book → Sound (book_after book qs)
  pub true_finds : (book : Book V) → Sound book → (tag : List ℕ) (answer : Found V) → find book tag ≡ Ok answer → TrueFind book tag answer

-- the same step length and rows; the rooms are free
pub record Alike {V : Type 0} (book other : Book V) : Type 0 where
  pub step : book.step ≡ other.step
  pub rows : book.rows ≡ other.rows

-- two runs from alike books, with calls that differ at most in their doubles: where neither refuses for want of room,
-- every call but double gets the same answer and buffer from both, and the books end alike
abbrev pub RoomsDoNotShow : Type 0 → Type 0
RoomsDoNotShow V = (book other : Book V) (qs ps : List (Request V)) → Alike book other → but_doubles qs ≡ but_doubles ps
    → AllRoomy (replies book qs) → AllRoomy (replies other ps)
    → (replies_but_doubles book qs ≡ replies_but_doubles other ps) × Alike (book_after book qs) (book_after other ps)
