-- how many leading bytes two words share: the laws that the tree and the book stand on
use Rattle.std.proofs.Common.{◌≡◌, ℕ, zero, suc, ◌-◌, ◌<◌, ◌≤◌, min, true, eqb, List, [], ◌∷◌, length, get_or, take, drop, sym, refl, ap, ◌∙◌, inl, inr, arith}
use Rattle.std.proofs.lemmas.Bool.{cases_eq, eq-eqb, ne_eqb, eqb-true, and_parts}
use Rattle.tags.specs.Tags.{spelled}
use Rattle.rules.specs.Words.{shared, same_word}
use Rattle.rules.proofs.Bytes.{Bytes}

shared_step : (a b : ℕ) (s t : List ℕ) → a ≡ b → shared (a ∷ s) (b ∷ t) ≡ suc (shared s t)
unfolding shared
shared_step a b s t e = rw (eq-eqb a b e, shared)

shared_stop : (a b : ℕ) (s t : List ℕ) → (a ≡ b → ⊥) → shared (a ∷ s) (b ∷ t) ≡ 0
unfolding shared
shared_stop a b s t e = rw (ne_eqb a b e, shared)

pub shared_nil : (s : List ℕ) → shared s [] ≡ 0
unfolding shared
shared_nil [] = refl
shared_nil (a ∷ s) = refl

nil_shared : (s : List ℕ) → shared [] s ≡ 0
unfolding shared
nil_shared s = refl

pub shared_sym : (s t : List ℕ) → shared s t ≡ shared t s
shared_sym [] t = nil_shared t ∙ sym (shared_nil t)
shared_sym (a ∷ s) [] = shared_nil (a ∷ s) ∙ sym (nil_shared (a ∷ s))
shared_sym (a ∷ s) (b ∷ t) = elim (cases_eq a b) [
  | inl e ↦ shared_step a b s t e ∙ ap suc (shared_sym s t) ∙ sym (shared_step b a t s (sym e))
  | inr n ↦ shared_stop a b s t n ∙ sym (shared_stop b a t s (λ e. n (sym e)))
]

pub shared_length : (s t : List ℕ) → shared s t ≤ length s
shared_length [] t = omega (arith, nil_shared t)
shared_length (a ∷ s) [] = omega (arith, shared_nil (a ∷ s))
shared_length (a ∷ s) (b ∷ t) = elim (cases_eq a b) [
  | inl e ↦ omega (arith, shared_step a b s t e, shared_length s t)
  | inr n ↦ omega (arith, shared_stop a b s t n)
]

pub shared_across : (s t u : List ℕ) → min (shared s t) (shared t u) ≤ shared s u
shared_across [] t u = omega (arith, nil_shared t)
shared_across (a ∷ s) [] u = omega (arith, shared_nil (a ∷ s))
shared_across (a ∷ s) (b ∷ t) [] = omega (arith, shared_nil (b ∷ t))
shared_across (a ∷ s) (b ∷ t) (c ∷ u) = elim (cases_eq a b) [
  | inr n ↦ omega (arith, shared_stop a b s t n)
  | inl e ↦ elim (cases_eq b c) [
    | inr n ↦ omega (arith, shared_stop b c t u n)
    | inl f ↦ omega (arith, shared_step a b s t e, shared_step b c t u f, shared_step a c s u (e ∙ f), shared_across s t u)
  ]
]

pub shared_read : (s t : List ℕ) (p : ℕ) → p < shared s t → get_or s p 0 ≡ get_or t p 0
shared_read [] t p h = absurd (omega (arith, nil_shared t))
shared_read (a ∷ s) [] p h = absurd (omega (arith, shared_nil (a ∷ s)))
shared_read (a ∷ s) (b ∷ t) zero h = elim (cases_eq a b) [
  | inl e ↦ e
  | inr n ↦ absurd (omega (arith, shared_stop a b s t n))
]
shared_read (a ∷ s) (b ∷ t) (suc p) h = elim (cases_eq a b) [
  | inl e ↦ shared_read s t p (omega (arith, shared_step a b s t e))
  | inr n ↦ absurd (omega (arith, shared_stop a b s t n))
]

pub shared_more : (s t : List ℕ) (p : ℕ) → p ≤ shared s t → p < length s → p < length t → get_or s p 0 ≡ get_or t p 0 → p < shared s t
shared_more [] t p h ls lt r = absurd (omega arith)
shared_more (a ∷ s) [] p h ls lt r = absurd (omega arith)
shared_more (a ∷ s) (b ∷ t) zero h ls lt r = omega (arith, shared_step a b s t r)
shared_more (a ∷ s) (b ∷ t) (suc p) h ls lt r = elim (cases_eq a b) [
  | inl e ↦ omega (arith, shared_step a b s t e, shared_more s t p (omega (arith, shared_step a b s t e)) (omega arith) (omega arith) r)
  | inr n ↦ absurd (omega (arith, shared_stop a b s t n))
]

pub shared_drop : (s t : List ℕ) (p : ℕ) → p ≤ shared s t → shared (drop p s) (drop p t) ≡ shared s t - p
shared_drop s t zero h = omega arith
shared_drop [] t (suc p) h = absurd (omega (arith, nil_shared t))
shared_drop (a ∷ s) [] (suc p) h = absurd (omega (arith, shared_nil (a ∷ s)))
shared_drop (a ∷ s) (b ∷ t) (suc p) h = elim (cases_eq a b) [
  | inl e ↦ omega (arith, shared_step a b s t e, shared_drop s t p (omega (arith, shared_step a b s t e)))
  | inr n ↦ absurd (omega (arith, shared_stop a b s t n))
]

-- a spelled form that another begins with is that other
pub spelled_whole : (x y : List ℕ) → Bytes x → Bytes y → length (spelled x) ≤ shared (spelled x) (spelled y) → x ≡ y
unfolding spelled
spelled_whole [] [] bx by h = refl
spelled_whole [] (b ∷ y) bx by h = absurd (omega (arith, by.0, shared_stop 0 b [] (spelled y) (omega (arith, by.0))))
spelled_whole (a ∷ x) [] bx by h = absurd (omega (arith, bx.0, shared_stop a 0 (spelled x) [] (omega (arith, bx.0))))
spelled_whole (a ∷ x) (b ∷ y) bx by h = elim (cases_eq a b) [
  | inl e ↦ let f : x ≡ y = spelled_whole x y bx.2 by.2 (omega (arith, shared_step a b (spelled x) (spelled y) e)) in cc
  | inr n ↦ absurd (omega (arith, shared_stop a b (spelled x) (spelled y) n))
]

pub same_word_is : (s t : List ℕ) → same_word s t ≡ true → s ≡ t
unfolding same_word
same_word_is [] [] h = refl
same_word_is [] (b ∷ t) h = cc
same_word_is (a ∷ s) [] h = cc
same_word_is (a ∷ s) (b ∷ t) h =
    let k = and_parts (eqb a b) (same_word s t) h in
    let e : a ≡ b = eqb-true a b k.0 in
    let f : s ≡ t = same_word_is s t k.1 in cc

pub same_word_self : (s : List ℕ) → same_word s s ≡ true
unfolding same_word
same_word_self [] = refl
same_word_self (a ∷ s) = rw (eq-eqb a a refl, same_word_self s)

pub shared_self : (s : List ℕ) → shared s s ≡ length s
shared_self [] = nil_shared []
shared_self (a ∷ s) = shared_step a a s s refl ∙ ap suc (shared_self s)

pub shared_take : (s t : List ℕ) (p : ℕ) → p ≤ shared s t → take p s ≡ take p t
shared_take s t zero h = refl
shared_take [] t (suc p) h = absurd (omega (arith, nil_shared t))
shared_take (a ∷ s) [] (suc p) h = absurd (omega (arith, shared_nil (a ∷ s)))
shared_take (a ∷ s) (b ∷ t) (suc p) h = elim (cases_eq a b) [
  | inl e ↦ let f : take p s ≡ take p t = shared_take s t p (omega (arith, shared_step a b s t e)) in cc
  | inr n ↦ absurd (omega (arith, shared_stop a b s t n))
]
