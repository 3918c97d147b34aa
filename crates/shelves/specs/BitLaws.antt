-- a bit shelf's bytes keep the laws of elements
use Rattle.std.proofs.Common.{◌≡◌, ℕ, ◌*◌, ◌/◌, ◌%◌, ◌<◌, ◌≤◌, Bool, true, false, cond, List, map, length, get_or, set, replicate, None, Option, sym, refl, ap, ◌∙◌, ⊎_elim, arith}
use Rattle.std.specs.List.{range_with_len}
use Rattle.std.proofs.lemmas.List.FromFn.{length-map-range_with_len, get_or-map-range_with_len}
use Rattle.std.proofs.lemmas.List.{same_lists, length-set, set_past, get_or-set_same, get_or-set_other, length-replicate, get_or-replicate}
use Rattle.std.proofs.lemmas.Bool.{cases_eq, cases_lt}
use Rattle.parts.specs.Shelves.{blanks}
use Rattle.shelves.specs.Lent.{size_taken, size_of, ElementLaws}
use Rattle.shelves.specs.Bits.{most_bytes, pair_in, place_of, pair_of, with_pair, place_at, with_place, bit_places, bit_new, bit_set}
use Rattle.shelves.specs.Pairs.{place_pair, pair_small, zero_blank, pair_same, pair_other}

-- a place after a write to it, and after one to another
place_same : (bytes : List ℕ) (n : ℕ) (place : Option Bool) → n / 4 < length bytes → place_at (with_place bytes n place) n ≡ place
place_same bytes n place h =
    ap (λ (byte : ℕ). place_of (pair_in byte (n % 4))) (get_or-set_same bytes (n / 4) _ 0 h)
    ∙ ap place_of (pair_same (get_or bytes (n / 4) 0) (pair_of place) (n % 4) (pair_small place) (omega arith))
    ∙ place_pair place

place_other : (bytes : List ℕ) (n m : ℕ) (place : Option Bool) → n / 4 < length bytes → (m ≡ n → ⊥) → place_at (with_place bytes n place) m ≡ place_at bytes m
place_other bytes n m place h d =
    ⊎_elim
    (λ e. ap (λ (byte : ℕ). place_of (pair_in byte (m % 4)))
    (ap (λ (i : ℕ). get_or (with_place bytes n place) i 0) e ∙ get_or-set_same bytes (n / 4) _ 0 h)
    ∙ ap place_of (pair_other (get_or bytes (n / 4) 0) (pair_of place) (n % 4) (m % 4) (pair_small place) (omega arith) (omega arith) (λ w. d (omega arith)))
    ∙ ap (λ (i : ℕ). place_of (pair_in (get_or bytes i 0) (m % 4))) (sym e))
    (λ e. ap (λ (byte : ℕ). place_of (pair_in byte (m % 4))) (get_or-set_other bytes (n / 4) (m / 4) _ 0 e))
    (cases_eq (m / 4) (n / 4))

-- the first p places as a list
abbrev first : List ℕ → ℕ → List (Option Bool)
first bytes p = map (place_at bytes) (range_with_len 0 p)

first_length : (bytes : List ℕ) (p : ℕ) → length (first bytes p) ≡ p
first_length bytes p = length-map-range_with_len (place_at bytes) 0 p

first_at : (bytes : List ℕ) (p n : ℕ) (d : Option Bool) → n < p → get_or (first bytes p) n d ≡ place_at bytes n
first_at bytes p n d h = get_or-map-range_with_len (place_at bytes) 0 p n n d h (omega arith)

first_set : (bytes : List ℕ) (p n : ℕ) (place : Option Bool) → n < p → n / 4 < length bytes → first (with_place bytes n place) p ≡ set (first bytes p) n place
first_set bytes p n place h l =
    same_lists (first (with_place bytes n place) p) (set (first bytes p) n place)
    (first_length (with_place bytes n place) p ∙ sym (length-set (first bytes p) n place ∙ first_length bytes p))
    (λ k d m.
    let kp : k < p = let e : length (first (with_place bytes n place) p) ≡ p = first_length (with_place bytes n place) p in omega arith in
    first_at (with_place bytes n place) p k d kp
    ∙ ⊎_elim
    (λ e. ap (λ (i : ℕ). place_at (with_place bytes n place) i) e ∙ place_same bytes n place l
    ∙ sym (ap (λ (i : ℕ). get_or (set (first bytes p) n place) i d) e ∙ get_or-set_same (first bytes p) n place d (let e : length (first bytes p) ≡ p = first_length bytes p in omega arith)))
    (λ e. place_other bytes n k place l e ∙ sym (get_or-set_other (first bytes p) n k place d e ∙ first_at bytes p k d kp))
    (cases_eq k n))

first_blank : (size : ℕ) → first (replicate size 0) (4 * size) ≡ blanks (4 * size)
first_blank size =
    same_lists (first (replicate size 0) (4 * size)) (blanks (4 * size))
    (first_length (replicate size 0) (4 * size) ∙ sym (length-replicate (4 * size) None))
    (λ k d m.
    let kp : k < 4 * size = let e : length (first (replicate size 0) (4 * size)) ≡ 4 * size = first_length (replicate size 0) (4 * size) in omega arith in
    first_at (replicate size 0) (4 * size) k d kp
    ∙ ap (λ (byte : ℕ). place_of (pair_in byte (k % 4))) (get_or-replicate size (k / 4) 0 0 (omega arith))
    ∙ zero_blank (k % 4) (omega arith)
    ∙ sym (get_or-replicate (4 * size) k None d kp))

-- by the answer of the size test
byte_served : (t : Bool) (count n : ℕ) → n < 4 * cond t count 0 → n / 4 < count
byte_served true count n h = omega arith
byte_served false count n h = absurd (let z : ⊥ = omega arith in z)

size_served : (t : Bool) (bytes : List ℕ) → length (cond t (replicate (length bytes) 0) bytes) ≡ length bytes
size_served true bytes = length-replicate (length bytes) 0
size_served false bytes = refl

blank_served : (t : Bool) (bytes : List ℕ) → first (cond t (replicate (length bytes) 0) bytes) (4 * cond t (length bytes) 0) ≡ blanks (4 * cond t (length bytes) 0)
blank_served true bytes = first_blank (length bytes)
blank_served false bytes = refl

set_served : (t : Bool) (bytes : List ℕ) (n : ℕ) (place : Option Bool) → n < 4 * cond t (length bytes) 0 → cond t (with_place bytes n place) bytes ≡ with_place bytes n place
set_served true bytes n place h = refl
set_served false bytes n place h = absurd (let z : ⊥ = omega arith in z)

past_served : (t : Bool) (bytes : List ℕ) (n : ℕ) (place : Option Bool) → 4 * cond t (length bytes) 0 ≤ n → cond t (with_place bytes n place) bytes ≡ bytes
past_served true bytes n place h = set_past bytes (n / 4) _ (omega arith)
past_served false bytes n place h = refl

-- the places that serve
abbrev room : List ℕ → ℕ
room bytes = 4 * size_of most_bytes (length bytes)

bit_count : (bytes : List ℕ) → length (bit_places bytes) ≡ room bytes
bit_count bytes = first_length bytes (room bytes)

pub bit_at : (bytes : List ℕ) (n : ℕ) → n < room bytes → place_at bytes n ≡ get_or (bit_places bytes) n None
bit_at bytes n h = sym (first_at bytes (room bytes) n None h)

bit_blank : (bytes : List ℕ) → bit_places (bit_new bytes) ≡ blanks (room bytes)
bit_blank bytes =
    ap (λ (count : ℕ). first (bit_new bytes) (4 * size_of most_bytes count)) (size_served (size_taken most_bytes (length bytes)) bytes)
    ∙ blank_served (size_taken most_bytes (length bytes)) bytes

bit_within : (bytes : List ℕ) (n : ℕ) (place : Option Bool) → n < room bytes → bit_set bytes n place ≡ with_place bytes n place
bit_within bytes n place h = set_served (size_taken most_bytes (length bytes)) bytes n place h

bit_beyond : (bytes : List ℕ) (n : ℕ) (place : Option Bool) → room bytes ≤ n → bit_set bytes n place ≡ bytes
bit_beyond bytes n place h = past_served (size_taken most_bytes (length bytes)) bytes n place h

bit_next : (bytes : List ℕ) (n : ℕ) (place : Option Bool) → bit_places (bit_set bytes n place) ≡ set (bit_places bytes) n place
bit_next bytes n place =
    ⊎_elim
    (λ h. ap bit_places (bit_within bytes n place h)
    ∙ ap (λ (count : ℕ). first (with_place bytes n place) (4 * size_of most_bytes count)) (length-set bytes (n / 4) _)
    ∙ first_set bytes (room bytes) n place h (byte_served (size_taken most_bytes (length bytes)) (length bytes) n h))
    (λ h. ap bit_places (bit_beyond bytes n place h) ∙ sym (set_past (bit_places bytes) n place (let e : length (bit_places bytes) ≡ room bytes = bit_count bytes in omega arith)))
    (cases_lt n (room bytes))

pub bit_laws : ElementLaws 4 most_bytes 0 (λ byte k. place_of (pair_in byte k)) (λ byte k place. with_pair byte k (pair_of place)) (λ count. 4 * size_of most_bytes count) bit_places bit_new bit_set
bit_laws = record {
  some = omega arith;
  small = omega arith;
  room_of = λ count. refl;
  count = bit_count;
  place = bit_at;
  fresh_list = λ bytes. refl;
  fresh_blank = bit_blank;
  within = bit_within;
  beyond = bit_beyond;
  next = bit_next;
}
