-- what the laws of elements give
use Rattle.std.proofs.Common.{◌≡◌, ℕ, ◌*◌, ◌/◌, ◌%◌, ◌<◌, ◌≤◌, Bool, true, false, cond, List, length, get_or, set, replicate, None, Option, sym, ap, mul_comm, ◌∙◌, arith}
use Rattle.std.proofs.lemmas.Nat.{div_below}
use Rattle.std.proofs.lemmas.List.{get_or_read}
use Rattle.parts.specs.Shelves.{blanks}
use Rattle.shelves.specs.Lent.{size_taken, size_of, if_taken, ElementLaws}

served : (t : Bool) (count : ℕ) → cond t count 0 ≤ count
served true count = omega arith
served false count = omega arith

module _ {E V : Type 0} {each most : ℕ} {blank : E} {look : E → ℕ → Option V} {write : E → ℕ → Option V → E}
    {room : ℕ → ℕ} {places : List E → List (Option V)} {fresh : List E → List E} {changed : List E → ℕ → Option V → List E}
    (laws : ElementLaws each most blank look write room places fresh changed) where
  room_at : (list : List E) (n : ℕ) → n < length (places list) → n < room (length list)
  room_at list n h = rw (sym (laws.count list)) h

  pub in_list : (list : List E) (n : ℕ) → n < length (places list) → n / each < length list
  in_list list n h =
      let size : size_of most (length list) ≤ length list = served (size_taken most (length list)) (length list) in
      let below : n < size_of most (length list) * each = rw (mul_comm (size_of most (length list)) each, sym (laws.room_of (length list))) (room_at list n h) in
      omega (arith, div_below n each (size_of most (length list)) laws.some below)

  read_e : (list : List E) (n k : ℕ) (e : E) → k ≡ each → n < length (places list) → e ≡ get_or list (n / k) e → e ≡ get_or list (n / each) blank
  read_e list n k e p h at = get_or_read list (n / each) e (in_list list n h) (at ∙ ap (λ (k : ℕ). get_or list (n / k) e) p) blank

  pub look_at : (list : List E) (n k j : ℕ) (e : E) → k ≡ each → j ≡ each → n < length (places list) → e ≡ get_or list (n / k) e → look e (n % j) ≡ get_or (places list) n None
  look_at list n k j e p q h at =
      ap (λ (j : ℕ). look e (n % j)) q ∙ ap (λ (e : E). look e (n % each)) (read_e list n k e p h at) ∙ laws.place list n (room_at list n h)

  pub set_at : (list : List E) (n k j : ℕ) (e : E) (put : Option V) → k ≡ each → j ≡ each → n < length (places list) → e ≡ get_or list (n / k) e
      → set list (n / k) (write e (n % j) put) ≡ changed list n put
  set_at list n k j e put p q h at =
      ap (λ (k : ℕ). set list (n / k) (write e (n % j) put)) p
      ∙ ap (set list (n / each)) (ap (λ (j : ℕ). write e (n % j) put) q ∙ ap (λ (e : E). write e (n % each) put) (read_e list n k e p h at))
      ∙ sym (laws.within list n put (room_at list n h))

  pub set_beyond : (list : List E) (n : ℕ) (place : Option V) → length (places list) ≤ n → list ≡ changed list n place
  set_beyond list n place h = sym (laws.beyond list n place (rw (sym (laws.count list)) h))

  pub fresh_is : (list new : List E) → new ≡ if_taken most list (replicate (length list) blank) → new ≡ fresh list
  fresh_is list new e = e ∙ sym (laws.fresh_list list)

  pub fresh_blank : (list new : List E) → new ≡ if_taken most list (replicate (length list) blank) → places new ≡ blanks (room (length list))
  fresh_blank list new e = ap places (fresh_is list new e) ∙ laws.fresh_blank list
