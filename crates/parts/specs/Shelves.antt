-- what a shelf means: the list of its places, each blank or holding a value
use Rattle.std.specs.Prelude.{ℕ, cond, List, length, replicate, None, Ok, Err, Option, Result, nat_lt, slice_index_or}
use Rattle.parts.specs.declared.shelf.ShelfFault.{ShelfFault}
use Rattle.parts.specs.declared.shelf.ShelfFault.TheVariants.{NoPlace}

unfoldable pub get_answer : {V : Type 0} → List (Option V) → ℕ → Result (Option V) ShelfFault
get_answer places n = cond (nat_lt n (length places)) (Ok (slice_index_or places n None)) (Err NoPlace)

-- put and clear; `slice_set` beyond the last place changes nothing
unfoldable pub set_answer : {V : Type 0} → List (Option V) → ℕ → Result (Unit {0}) ShelfFault
set_answer places n = cond (nat_lt n (length places)) (Ok tt) (Err NoPlace)

-- n blank places
abbrev pub blanks : {V : Type 0} → ℕ → List (Option V)
blanks n = replicate n None
