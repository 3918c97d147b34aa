-- the rows of the arrival book: a plain list that knows nothing of the tree
use Rattle.std.specs.Prelude.{ℕ, suc, ◌+◌, ◌-◌, ◌/◌, min, max, Bool, true, false, List, [], ◌∷◌, ◌++◌, map, length, Some, None, Option, nat_eq, nat_le, slice_index_or}
use Rattle.tags.specs.Tags.{spelled}
use Rattle.rules.specs.declared.step.Step.{Step}
use Rattle.rules.specs.Steps.{size}
use Rattle.rules.specs.Words.{shared, same_word}

pub record Row (V : Type 0) : Type 0 where
  pub tag : List ℕ
  -- none is the mark "struck": the row is kept, and holds no value
  pub value : Option V
  -- where in the spelled form the bytes begin that are the row's own
  pub start : ℕ
  -- the number of an earlier row; the first row has none
  pub owner : Option ℕ
  -- how far behind the owner's start the two part; it says nothing in the first row
  pub offset : ℕ
  -- the small number that stands for the tag
  pub ticket : ℕ
  -- the nodes that its entry made, the tag's own among them; 0 in the first row
  pub needs : ℕ
  -- the moves of a find of the tag
  pub moves : ℕ

abbrev pub first_row : {V : Type 0} → List ℕ → Option V → Row V
first_row tag value = record { tag = tag; value = value; start = 0; owner = None; offset = 0; ticket = 0; needs = 0; moves = 0 }

-- row j, and its spelled form
abbrev pub row_at : {V : Type 0} → List (Row V) → ℕ → Row V
row_at rows j = slice_index_or rows j (first_row [] None)

abbrev pub word : {V : Type 0} → List (Row V) → ℕ → List ℕ
word rows j = spelled (row_at rows j).tag

-- d: the largest number of leading bytes that s shares with the spelled form of a row
unfoldable pub most : {V : Type 0} → List ℕ → List (Row V) → ℕ
most s [] = 0
most s (r ∷ rs) = max (shared s (spelled r.tag)) (most s rs)

-- the earliest row that shares d bytes with s
unfoldable pub earliest : {V : Type 0} → List ℕ → ℕ → List (Row V) → ℕ
earliest s d [] = 0
earliest s d (r ∷ rs) = elim (nat_le d (shared s (spelled r.tag))) [ true ↦ 0 | false ↦ suc (earliest s d rs) ]

abbrev pub owns : {V : Type 0} → ℕ → Row V → Bool
owns o r = elim r.owner [ None ↦ false | Some p ↦ nat_eq p o ]

-- the steps of row o: the largest offset div step length among the rows that it owns, or 0
unfoldable pub steps_of : {V : Type 0} → Step → ℕ → List (Row V) → ℕ
steps_of step o [] = 0
steps_of step o (r ∷ rs) = elim (owns o r) [ true ↦ max (r.offset / size step) (steps_of step o rs) | false ↦ steps_of step o rs ]

-- 1, plus what each later row needed
unfoldable pub nodes : {V : Type 0} → List (Row V) → ℕ
nodes [] = 1
nodes (r ∷ rs) = r.needs + nodes rs

-- the label bytes of a row, and of all rows
abbrev pub row_bytes : {V : Type 0} → Row V → ℕ
row_bytes r = length (spelled r.tag) - r.start

unfoldable pub label_bytes : {V : Type 0} → List (Row V) → ℕ
label_bytes [] = 0
label_bytes (r ∷ rs) = row_bytes r + label_bytes rs

-- of a tag in no row, when rows exist: its owner, its offset, and the nodes that it needs, its own among them
abbrev pub owner_of : {V : Type 0} → List (Row V) → List ℕ → ℕ
owner_of rows tag = earliest (spelled tag) (most (spelled tag) rows) rows

abbrev pub offset_of : {V : Type 0} → List (Row V) → List ℕ → ℕ
offset_of rows tag = most (spelled tag) rows - (row_at rows (owner_of rows tag)).start

abbrev pub needs_of : {V : Type 0} → Step → List (Row V) → List ℕ → ℕ
needs_of step rows tag = 1 + (offset_of rows tag / size step - steps_of step (owner_of rows tag) rows)

-- the row that such a tag gets
unfoldable pub later_row : {V : Type 0} → Step → List (Row V) → List ℕ → Option V → Row V
later_row step rows tag value = record {
  tag = tag;
  value = value;
  start = most (spelled tag) rows + 1;
  owner = Some (owner_of rows tag);
  offset = offset_of rows tag;
  ticket = nodes rows + needs_of step rows tag - 1;
  needs = needs_of step rows tag;
  moves = (row_at rows (owner_of rows tag)).moves + 1 + offset_of rows tag / size step;
}

-- the row that a tag in no row gets
unfoldable pub next_row : {V : Type 0} → Step → List (Row V) → List ℕ → Option V → Row V
next_row step [] tag value = first_row tag value
next_row step (r ∷ rs) tag value = later_row step (r ∷ rs) tag value

-- the moves of a find of a tag in no row
unfoldable pub absent_moves : {V : Type 0} → Step → List (Row V) → List ℕ → ℕ
absent_moves step [] tag = 0
absent_moves {V} step (r ∷ rs) tag =
    let rows : List (Row V) = r ∷ rs in
    (row_at rows (owner_of rows tag)).moves + min (offset_of rows tag / size step) (steps_of step (owner_of rows tag) rows)

-- the number of the row with the tag
unfoldable pub row_of : {V : Type 0} → List (Row V) → List ℕ → Option ℕ
row_of [] tag = None
row_of (r ∷ rs) tag = elim (same_word r.tag tag) [
  | true ↦ Some 0
  | false ↦ elim (row_of rs tag) [ None ↦ None | Some j ↦ Some (suc j) ]
]

-- a tag that arrives, with its value or struck: one in no row becomes the last row, and one in a row changes nothing
pub record Arrival (V : Type 0) : Type 0 where
  pub tag : List ℕ
  pub value : Option V

unfoldable pub arrive : {V : Type 0} → Step → List (Row V) → Arrival V → List (Row V)
arrive step rows a = elim (row_of rows a.tag) [ Some j ↦ rows | None ↦ rows ++ (next_row step rows a.tag a.value ∷ []) ]

unfoldable pub arrive_all : {V : Type 0} → Step → List (Row V) → List (Arrival V) → List (Row V)
arrive_all step rows [] = rows
arrive_all step rows (a ∷ as') = arrive_all step (arrive step rows a) as'

unfoldable pub rows_of : {V : Type 0} → Step → List (Arrival V) → List (Row V)
rows_of step arrivals = arrive_all step [] arrivals

-- what arrived for each row; and the rows' tags
abbrev pub arrivals_of : {V : Type 0} → List (Row V) → List (Arrival V)
arrivals_of {V} rows = map (λ (r : Row V). record { tag = r.tag; value = r.value }) rows

abbrev pub tags_of : {V : Type 0} → List (Row V) → List (List ℕ)
tags_of {V} rows = map (λ (r : Row V). r.tag) rows
