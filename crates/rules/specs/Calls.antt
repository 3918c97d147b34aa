-- the arrival book and its six calls
use Rattle.std.specs.Prelude.{ℕ, ◌+◌, true, false, List, [], ◌∷◌, ◌++◌, length, drop, Some, None, Ok, Err, Option, Result, ◌==◌, nat_lt, slice_set}
use Rattle.tags.specs.declared.refusal.MapFault.TheVariants.{LastRoom}
use Rattle.tags.specs.declared.refusal.Refusal.{Refusal}
use Rattle.tags.specs.declared.refusal.Refusal.TheVariants.{RowHolds, NoLiveRow, NoNodeRoom, NoByteRoom, NoSuchTicket, ShortBuffer, NoNextRoom}
use Rattle.tags.specs.Tags.{tag_refusal}
use Rattle.rules.specs.declared.step.Step.{Step}
use Rattle.rules.specs.declared.answers.Found.{Found}
use Rattle.rules.specs.Book.{Row, row_at, nodes, row_bytes, label_bytes, next_row, absent_moves, row_of}

-- a room is the number of nodes that there may be: one is current, others come by doubling. The byte room is the
-- number of label bytes that there may be
pub record Book (V : Type 0) : Type 0 where
  pub step : Step
  pub rows : List (Row V)
  pub room : ℕ
  pub coming : List ℕ
  pub byte_room : ℕ

-- what a call answers, and the book after it
pub record Turn (A V : Type 0) : Type 0 where
  pub answer : A
  pub next : Book V

-- a refusal leaves the book as it is
abbrev pub refuses : {A V : Type 0} → Book V → Refusal → Turn (Result A Refusal) V
refuses book why = record { answer = Err why; next = book }

-- a badly formed tag is refused before anything else is looked at
abbrev pub checked_first : {A V : Type 0} → Book V → List ℕ → Turn (Result A Refusal) V → Turn (Result A Refusal) V
checked_first book tag turn = elim (tag_refusal tag) [ Some why ↦ refuses book why | None ↦ turn ]

abbrev pub with_rows : {V : Type 0} → Book V → List (Row V) → Book V
with_rows book rows = record { step = book.step; rows = rows; room = book.room; coming = book.coming; byte_room = book.byte_room }

abbrev pub with_value : {V : Type 0} → Row V → Option V → Row V
with_value r value = record { tag = r.tag; value = value; start = r.start; owner = r.owner; offset = r.offset; ticket = r.ticket; needs = r.needs; moves = r.moves }

-- row j takes a value, or is struck, and its ticket is the answer
unfoldable pub takes : {V : Type 0} → Book V → ℕ → Option V → Turn (Result ℕ Refusal) V
takes book j value = record {
  answer = Ok (row_at book.rows j).ticket;
  next = with_rows book (slice_set book.rows j (with_value (row_at book.rows j) value));
}

-- entering a tag that row j has
unfoldable pub enter_old : {V : Type 0} → Book V → ℕ → V → Turn (Result ℕ Refusal) V
enter_old book j value = elim (row_at book.rows j).value [ Some held ↦ refuses book RowHolds | None ↦ takes book j (Some value) ]

-- entering a tag in no row, which would get the row r
unfoldable pub enter_new : {V : Type 0} → Book V → Row V → Turn (Result ℕ Refusal) V
enter_new book r = elim (nat_lt book.room (nodes book.rows + r.needs)) [
  | true ↦ refuses book NoNodeRoom
  | false ↦ elim (nat_lt book.byte_room (label_bytes book.rows + row_bytes r)) [
    | true ↦ refuses book NoByteRoom
    | false ↦ record { answer = Ok r.ticket; next = with_rows book (book.rows ++ (r ∷ [])) }
  ]
]

unfoldable pub enter : {V : Type 0} → Book V → List ℕ → V → Turn (Result ℕ Refusal) V
enter book tag value = checked_first book tag (elim (row_of book.rows tag) [
  | Some j ↦ enter_old book j value
  | None ↦ enter_new book (next_row book.step book.rows tag (Some value))
])

-- a row that holds a value takes another, or is struck
unfoldable pub on_live_row : {V : Type 0} → Book V → List ℕ → Option V → Turn (Result ℕ Refusal) V
on_live_row book tag value = checked_first book tag (elim (row_of book.rows tag) [
  | None ↦ refuses book NoLiveRow
  | Some j ↦ elim (row_at book.rows j).value [ None ↦ refuses book NoLiveRow | Some held ↦ takes book j value ]
])

abbrev pub change : {V : Type 0} → Book V → List ℕ → V → Turn (Result ℕ Refusal) V
change book tag value = on_live_row book tag (Some value)

abbrev pub strike : {V : Type 0} → Book V → List ℕ → Turn (Result ℕ Refusal) V
strike book tag = on_live_row book tag None

-- a find's answers: a row holds a value for the tag, or none does
abbrev pub holds : {V : Type 0} → ℕ → V → ℕ → Found V
holds ticket value moves = record { held = Some (record { ticket = ticket; value = value }); moves = moves }

abbrev pub absent : {V : Type 0} → ℕ → Found V
absent moves = record { held = None; moves = moves }

-- what the rows say of a well-formed tag: a struck row is absent, with its own moves
unfoldable pub find_in : {V : Type 0} → Step → List (Row V) → List ℕ → Found V
find_in step rows tag = elim (row_of rows tag) [
  | None ↦ absent (absent_moves step rows tag)
  | Some j ↦ elim (row_at rows j).value [
    | None ↦ absent (row_at rows j).moves
    | Some value ↦ holds (row_at rows j).ticket value (row_at rows j).moves
  ]
]

unfoldable pub find : {V : Type 0} → Book V → List ℕ → Result (Found V) Refusal
find book tag = elim (tag_refusal tag) [ Some why ↦ Err why | None ↦ Ok (find_in book.step book.rows tag) ]

-- the tag of the row with a ticket, struck rows too
unfoldable pub tag_with : {V : Type 0} → List (Row V) → ℕ → Option (List ℕ)
tag_with [] ticket = None
tag_with (r ∷ rs) ticket = elim (r.ticket == ticket) [ true ↦ Some r.tag | false ↦ tag_with rs ticket ]

-- spell writes the tag at the buffer's beginning, and answers its length
unfoldable pub spell : {V : Type 0} → Book V → ℕ → List ℕ → Result ℕ Refusal
spell book ticket buffer = elim (tag_with book.rows ticket) [
  | None ↦ Err NoSuchTicket
  | Some tag ↦ elim (nat_lt (length buffer) (length tag)) [ true ↦ Err ShortBuffer | false ↦ Ok (length tag) ]
]

unfoldable pub spell_buffer : {V : Type 0} → Book V → ℕ → List ℕ → List ℕ
spell_buffer book ticket buffer = elim (tag_with book.rows ticket) [
  | None ↦ buffer
  | Some tag ↦ elim (nat_lt (length buffer) (length tag)) [ true ↦ buffer | false ↦ tag ++ drop (length tag) buffer ]
]

unfoldable pub double : {V : Type 0} → Book V → Turn (Result ℕ Refusal) V
double book = elim book.coming [
  | [] ↦ refuses book (NoNextRoom LastRoom)
  | room ∷ coming ↦ record {
    answer = Ok room;
    next = record { step = book.step; rows = book.rows; room = room; coming = coming; byte_room = book.byte_room };
  }
]
