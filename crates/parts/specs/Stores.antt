-- what a label store means
use Rattle.std.specs.Prelude.{ℕ, ◌+◌, ◌-◌, ◌<◌, ◌≤◌, cond, List, [], ◌∷◌, ◌++◌, length, drop, Ok, Err, Result, nat_lt, slice_index, slice_index_or}
use Rattle.rules.specs.Words.{shared}
use Rattle.rules.specs.Tree.{bytes_in}
use Rattle.parts.specs.declared.store.StoreFault.{StoreFault}
use Rattle.parts.specs.declared.store.StoreFault.TheVariants.{StartBeyond, LabelTooLong, PlacesUsed, BytesUsed, NoLabel, NoByte}

-- labels may number at most the places, and have at most byte_room bytes together
pub record Store : Type 0 where
  pub labels : List (List ℕ)
  pub byte_room : ℕ
  pub places : ℕ

abbrev pub label_at : Store → ℕ → List ℕ
label_at l v = slice_index_or l.labels v []

-- the longest label
abbrev pub longest : ℕ
longest = 201

-- what holds of every label store
pub record StoreFacts (l : Store) : Type 0 where
  pub short : (v : ℕ) → v < length l.labels → length (label_at l v) ≤ longest
  pub placed : length l.labels ≤ l.places
  pub fits : bytes_in l.labels ≤ l.byte_room

unfoldable pub append_answer : Store → List ℕ → ℕ → Result (Unit {0}) StoreFault
append_answer l s f =
    cond (nat_lt (length s) f) (Err StartBeyond)
    (cond (nat_lt longest (length s - f)) (Err LabelTooLong)
    (cond (nat_lt (length l.labels) l.places)
    (cond (nat_lt l.byte_room (bytes_in l.labels + (length s - f))) (Err BytesUsed) (Ok tt))
    (Err PlacesUsed)))

abbrev pub with_label : Store → List ℕ → Store
with_label l label = record { labels = l.labels ++ (label ∷ []); byte_room = l.byte_room; places = l.places }

abbrev pub appended : Store → List ℕ → ℕ → Result (Unit {0}) StoreFault → Store
appended l s f (Ok done) = with_label l (drop f s)
appended l s f (Err fault) = l

unfoldable pub append_next : Store → List ℕ → ℕ → Store
append_next l s f = appended l s f (append_answer l s f)

unfoldable pub length_answer : Store → ℕ → Result ℕ StoreFault
length_answer l v = cond (nat_lt v (length l.labels)) (Ok (length (label_at l v))) (Err NoLabel)

unfoldable pub byte_answer : Store → ℕ → ℕ → Result ℕ StoreFault
byte_answer l v i = cond (nat_lt v (length l.labels)) (cond (nat_lt i (length (label_at l v))) (Ok (slice_index (label_at l v) i)) (Err NoByte)) (Err NoLabel)

unfoldable pub meet_answer : Store → ℕ → List ℕ → ℕ → Result ℕ StoreFault
meet_answer l v s f = cond (nat_lt v (length l.labels)) (cond (nat_lt (length s) f) (Err StartBeyond) (Ok (shared (drop f s) (label_at l v)))) (Err NoLabel)

-- a new store has no labels
abbrev pub new_store : ℕ → ℕ → Store
new_store byte_room places = record { labels = []; byte_room = byte_room; places = places }
