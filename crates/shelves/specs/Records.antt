-- what the lent list of a record shelf means
use Rattle.std.specs.Prelude.{ℕ, cond, List, [], length, Option, slice_set}
use Rattle.parts.specs.Shelves.{blanks}
use Rattle.shelves.specs.Lent.{size_taken, if_taken}

-- the most places
abbrev pub most_places : ℕ
most_places = 32768

-- the places are the lent list; of a refused size it has none
abbrev pub record_places : {V : Type 0} → List (Option V) → List (Option V)
record_places list = cond (size_taken most_places (length list)) list []

-- the lent list of a new shelf
abbrev pub record_new : {V : Type 0} → List (Option V) → List (Option V)
record_new list = if_taken most_places list (blanks (length list))

-- the lent list after a write to place n; `slice_set` beyond the last place changes nothing
abbrev pub record_set : {V : Type 0} → List (Option V) → ℕ → Option V → List (Option V)
record_set list n place = if_taken most_places list (slice_set list n place)
