-- a line taken apart
use Rattle.std.proofs.Common.{◌≡◌, ℕ, ◌-◌, ◌<◌, ◌≤◌, Bool, true, false, cond, ◌==◌, nat_eq, List, [], ◌∷◌, length, get_or, take, drop, Some, None, Option, sym, refl, ap, inl, inr, arith}
use Rattle.std.proofs.lemmas.List.{take_all}
use Rattle.std.proofs.lemmas.Bool.{cases_eq, eq-eqb, ne_eqb, true≢false}
use Rattle.std.specs.Cmp.Lexicographic.{pointwise}
use Rattle.commands.specs.Lines.{place_of}
use Rattle.commands.specs.Numbers.{number}
use Rattle.commands.specs.Commands.{Order, after_space, spaced, priced_with, priced_tag, order_by, order_in}

-- what follows a space, as it is stripped
not_a_space : (b : ℕ) (text : List ℕ) → (b ≡ 32 → ⊥) → after_space (b ∷ text) ≡ None
unfolding after_space
not_a_space b text n = rw (ne_eqb b 32 n, after_space) refl

pub no_space : (text : List ℕ) → pointwise nat_eq (take 1 text) (32 ∷ []) ≡ false → None ≡ after_space text
unfolding after_space
no_space [] e = refl
no_space (b ∷ text) e = elim (cases_eq b 32) [
  | inl z ↦ absurd (true≢false (rw (eq-eqb b 32 z) at e))
  | inr n ↦ sym (not_a_space b text n)
]

pub one_space : (text tag : List ℕ) → pointwise nat_eq (take 1 text) (32 ∷ []) ≡ true → tag ≡ drop 1 text → Some tag ≡ after_space text
unfolding after_space
one_space [] tag e t = absurd (true≢false (sym e))
one_space (b ∷ text) tag e t = elim (cases_eq b 32) [
  | inl z ↦ rw (eq-eqb b 32 z, after_space) (ap Some t)
  | inr n ↦ absurd (true≢false (sym (rw (ne_eqb b 32 n) at e)))
]

-- a priced tag, by its number and by what follows it
pub priced_is : (text digits rest : List ℕ) (p : ℕ) → p ≡ place_of 32 text → digits ≡ take p text → rest ≡ drop p text
    → priced_with (number digits) (after_space rest) ≡ priced_tag text
unfolding priced_tag
priced_is text digits rest p e d r = rw (d, r, e) refl

pub no_amount : (o : Option (List ℕ)) (n : Option ℕ) → None ≡ n → None ≡ priced_with n o
no_amount o n e = rw (← e) refl

pub no_tag : (amount : ℕ) (n : Option ℕ) (o : Option (List ℕ)) → Some amount ≡ n → None ≡ o → None ≡ priced_with n o
no_tag amount n o e f = rw (← e, ← f) refl

pub both : (amount : ℕ) (tag : List ℕ) (n : Option ℕ) (o : Option (List ℕ)) → Some amount ≡ n → Some tag ≡ o → Some (record { amount = amount; tag = tag }) ≡ priced_with n o
both amount tag n o e f = rw (← e, ← f) refl

-- a line that begins with a letter that is known and a space
pub spaced_line : (line : List ℕ) (k : ℕ) → 2 ≤ length line → get_or line 0 0 ≡ k → get_or line 1 0 ≡ 32 → order_by k (32 ∷ take (length line - 2) (drop 2 line)) ≡ order_in line
unfolding order_in
spaced_line [] k h e f = absurd (omega arith)
spaced_line (b ∷ []) k h e f = absurd (omega arith)
spaced_line (b ∷ s ∷ rest) k h e f =
    let a : take (length (b ∷ s ∷ rest) - 2) rest ≡ rest = take_all (length (b ∷ s ∷ rest) - 2) rest (omega arith) in rw (a, ← e, ← f) refl

-- a letter alone
pub letter_alone : (line : List ℕ) (k : ℕ) → 1 ≤ length line → length line < 2 → get_or line 0 0 ≡ k → order_by k [] ≡ order_in line
unfolding order_in
letter_alone [] k h l e = absurd (omega arith)
letter_alone (b ∷ []) k h l e = rw (← e) refl
letter_alone (b ∷ s ∷ rest) k h l e = absurd (omega arith)

-- lines that ask for nothing: an empty one, a letter alone that is not D, a letter with no space behind it, another letter
pub empty_line : (line : List ℕ) → length line < 1 → None ≡ order_in line
unfolding order_in
empty_line [] h = refl
empty_line (b ∷ line) h = absurd (omega arith)

none_of : (a b c d e f : Bool) → ◌≡◌ {A = Option Order} None (cond a None (cond b None (cond c None (cond d None (cond e None (cond f None None))))))
none_of true b c d e f = refl
none_of false true c d e f = refl
none_of false false true d e f = refl
none_of false false false true e f = refl
none_of false false false false true f = refl
none_of false false false false false true = refl
none_of false false false false false false = refl

pub other_alone : (line : List ℕ) → 1 ≤ length line → length line < 2 → (get_or line 0 0 ≡ 68 → ⊥) → None ≡ order_in line
unfolding order_in order_by after_space
other_alone [] h l n = absurd (omega arith)
other_alone (b ∷ []) h l n = rw (ne_eqb b 68 n) (none_of (b == 69) (b == 67) (b == 70) (b == 83) (b == 80) false)
other_alone (b ∷ s ∷ rest) h l n = absurd (omega arith)

pub unspaced_line : (line : List ℕ) → 2 ≤ length line → (get_or line 1 0 ≡ 32 → ⊥) → None ≡ order_in line
unfolding order_in order_by
unspaced_line [] h n = absurd (omega arith)
unspaced_line (b ∷ []) h n = absurd (omega arith)
unspaced_line (b ∷ s ∷ rest) h n =
    let z : after_space (s ∷ rest) ≡ None = not_a_space s rest n in
    let y : (length (s ∷ rest) == 0) ≡ false = ne_eqb (length (s ∷ rest)) 0 (omega arith) in
    rw (y, z, spaced) (none_of (b == 69) (b == 67) (b == 70) (b == 83) (b == 80) (b == 68))

pub other_line : (line : List ℕ) → 2 ≤ length line → (get_or line 0 0 ≡ 69 → ⊥) → (get_or line 0 0 ≡ 67 → ⊥) → (get_or line 0 0 ≡ 70 → ⊥) → (get_or line 0 0 ≡ 83 → ⊥) → (get_or line 0 0 ≡ 80 → ⊥) → None ≡ order_in line
unfolding order_in order_by
other_line [] h e c f s p = absurd (omega arith)
other_line (b ∷ []) h e c f s p = absurd (omega arith)
other_line (b ∷ t ∷ rest) h e c f s p =
    let y : (length (t ∷ rest) == 0) ≡ false = ne_eqb (length (t ∷ rest)) 0 (omega arith) in
    rw (y, ne_eqb b 69 e, ne_eqb b 67 c, ne_eqb b 70 f, ne_eqb b 83 s, ne_eqb b 80 p) (none_of false false false false false (b == 68))
