-- a record shelf's list keeps the laws of elements
use Rattle.std.proofs.Common.{◌≡◌, ℕ, ◌/◌, ◌<◌, ◌≤◌, Bool, true, false, cond, List, [], length, get_or, set, None, Option, refl, ap, ◌∙◌, arith}
use Rattle.std.proofs.lemmas.List.{length-set, length-replicate, set_past}
use Rattle.parts.specs.Shelves.{blanks}
use Rattle.shelves.specs.Lent.{size_taken, size_of, ElementLaws}
use Rattle.shelves.specs.Records.{most_places, record_places, record_new, record_set}

-- by the answer of the size test
count_served : {V : Type 0} (t : Bool) (list : List (Option V)) → length (cond t list []) ≡ cond t (length list) 0
count_served true list = refl
count_served false list = refl

at_served : {V : Type 0} (t : Bool) (list : List (Option V)) (n : ℕ) → n < cond t (length list) 0 → get_or list n None ≡ get_or (cond t list []) n None
at_served true list n h = refl
at_served false list n h = absurd (let z : ⊥ = omega arith in z)

size_served : {V : Type 0} (t : Bool) (list : List (Option V)) → length (cond t (blanks (length list)) list) ≡ length list
size_served true list = length-replicate (length list) None
size_served false list = refl

blank_served : {V : Type 0} (t : Bool) (list : List (Option V)) → cond t (cond t (blanks (length list)) list) [] ≡ blanks (cond t (length list) 0)
blank_served true list = refl
blank_served false list = refl

set_served : {V : Type 0} (t : Bool) (list : List (Option V)) (n : ℕ) (place : Option V) → n < cond t (length list) 0 → cond t (set list n place) list ≡ set list n place
set_served true list n place h = refl
set_served false list n place h = absurd (let z : ⊥ = omega arith in z)

past_served : {V : Type 0} (t : Bool) (list : List (Option V)) (n : ℕ) (place : Option V) → cond t (length list) 0 ≤ n → cond t (set list n place) list ≡ list
past_served true list n place h = set_past list n place h
past_served false list n place h = refl

length_served : {V : Type 0} (t : Bool) (list : List (Option V)) (n : ℕ) (place : Option V) → length (cond t (set list n place) list) ≡ length list
length_served true list n place = length-set list n place
length_served false list n place = refl

next_served : {V : Type 0} (t : Bool) (list : List (Option V)) (n : ℕ) (place : Option V) → cond t (cond t (set list n place) list) [] ≡ set (cond t list []) n place
next_served true list n place = refl
next_served false list n place = refl

-- the places that serve
abbrev room : {V : Type 0} → List (Option V) → ℕ
room list = size_of most_places (length list)

record_count : {V : Type 0} (list : List (Option V)) → length (record_places list) ≡ room list
record_count list = count_served (size_taken most_places (length list)) list

pub record_at : {V : Type 0} (list : List (Option V)) (n : ℕ) → n < room list → get_or list (n / 1) None ≡ get_or (record_places list) n None
record_at list n h = ap (λ (k : ℕ). get_or list k None) (omega arith) ∙ at_served (size_taken most_places (length list)) list n h

record_blank : {V : Type 0} (list : List (Option V)) → record_places (record_new list) ≡ blanks (room list)
record_blank list =
    ap (λ (count : ℕ). cond (size_taken most_places count) (record_new list) []) (size_served (size_taken most_places (length list)) list)
    ∙ blank_served (size_taken most_places (length list)) list

record_within : {V : Type 0} (list : List (Option V)) (n : ℕ) (place : Option V) → n < room list → record_set list n place ≡ set list (n / 1) place
record_within list n place h = set_served (size_taken most_places (length list)) list n place h ∙ ap (λ (k : ℕ). set list k place) (omega arith)

record_beyond : {V : Type 0} (list : List (Option V)) (n : ℕ) (place : Option V) → room list ≤ n → record_set list n place ≡ list
record_beyond list n place h = past_served (size_taken most_places (length list)) list n place h

record_next : {V : Type 0} (list : List (Option V)) (n : ℕ) (place : Option V) → record_places (record_set list n place) ≡ set (record_places list) n place
record_next list n place =
    ap (λ (count : ℕ). cond (size_taken most_places count) (record_set list n place) []) (length_served (size_taken most_places (length list)) list n place)
    ∙ next_served (size_taken most_places (length list)) list n place

pub record_laws : {V : Type 0} → ElementLaws 1 most_places None (λ (place : Option V) _. place) (λ _ _ place. place) (size_of most_places) record_places record_new record_set
record_laws = record {
  some = omega arith;
  small = omega arith;
  room_of = λ count. omega arith;
  count = record_count;
  place = record_at;
  fresh_list = λ list. refl;
  fresh_blank = record_blank;
  within = record_within;
  beyond = record_beyond;
  next = record_next;
}
