-- the list that is lent to a shelf: its size, and the places in its elements
use Rattle.std.specs.Prelude.{ℕ, ◌≡◌, ◌*◌, ◌/◌, ◌%◌, ◌^◌, ◌<◌, ◌≤◌, Bool, cond, ◌&&◌, List, length, replicate, None, Ok, Err, Option, Result, nat_le, slice_index_or, slice_set}
use Rattle.tags.specs.declared.refusal.Refusal.{Refusal}
use Rattle.tags.specs.declared.refusal.Refusal.TheVariants.{StoreMemory}
use Rattle.parts.specs.Shelves.{blanks}

-- 1 up to the limit
abbrev pub size_taken : ℕ → ℕ → Bool
size_taken limit count = nat_le 1 count && nat_le count limit

-- what a check of a size answers
abbrev pub size_answer : ℕ → ℕ → Result (Unit {0}) Refusal
size_answer limit count = cond (size_taken limit count) (Ok tt) (Err StoreMemory)

-- how many elements serve
abbrev pub size_of : ℕ → ℕ → ℕ
size_of limit count = cond (size_taken limit count) count 0

-- the lent list after a change, which a list of a refused size does not see
abbrev pub if_taken : {X : Type 0} → ℕ → List X → List X → List X
if_taken limit list changed = cond (size_taken limit (length list)) changed list

-- what a kind of element is: each holds so many places, and so many elements serve at most. `room` is how many places
-- lie in a count of elements, `places` the places of a list, `fresh` the list of a new shelf, and `changed` the list after
-- a write to a place.
pub record ElementLaws {E V : Type 0} (each most : ℕ) (blank : E) (look : E → ℕ → Option V) (write : E → ℕ → Option V → E)
    (room : ℕ → ℕ) (places : List E → List (Option V)) (fresh : List E → List E) (changed : List E → ℕ → Option V → List E) : Type 0 where
  pub some : 0 < each
  pub small : each * most < 2 ^ 32
  pub room_of : (count : ℕ) → room count ≡ each * size_of most count
  pub count : (list : List E) → length (places list) ≡ room (length list)
  pub place : (list : List E) (n : ℕ) → n < room (length list) → look (slice_index_or list (n / each) blank) (n % each) ≡ slice_index_or (places list) n None
  pub fresh_list : (list : List E) → fresh list ≡ if_taken most list (replicate (length list) blank)
  pub fresh_blank : (list : List E) → places (fresh list) ≡ blanks (room (length list))
  pub within : (list : List E) (n : ℕ) (put : Option V) → n < room (length list)
      → changed list n put ≡ slice_set list (n / each) (write (slice_index_or list (n / each) blank) (n % each) put)
  pub beyond : (list : List E) (n : ℕ) (put : Option V) → room (length list) ≤ n → changed list n put ≡ list
  pub next : (list : List E) (n : ℕ) (put : Option V) → places (changed list n put) ≡ slice_set (places list) n put
