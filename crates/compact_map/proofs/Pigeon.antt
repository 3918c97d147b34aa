-- more places than names for them: two have one name
use Rattle.std.proofs.Common.{◌≡◌, ℕ, zero, suc, ◌<◌, ◌≤◌, cond, eqb, ◌⊎◌, sym, ◌∙◌, inl, inr, suc-le-suc, zero-le, arith}
use Rattle.std.proofs.lemmas.Bool.{cases_eq, cond-true, cond-false, eq-eqb, ne_eqb}

abbrev pub Apart : ℕ → (ℕ → ℕ) → Type 0
Apart m f = (i j : ℕ) → i < m → j < m → f i ≡ f j → i ≡ j

-- names below n for m places, with no name twice: m is at most n. The place that has the last name is given the name of
-- the last place
pub pigeon : (n m : ℕ) (f : ℕ → ℕ) → ((i : ℕ) → i < m → f i < n) → Apart m f → m ≤ n
pigeon zero zero f b a = zero-le
pigeon zero (suc m) f b a = absurd (omega (arith, b 0 (omega arith)))
pigeon (suc n) zero f b a = zero-le
pigeon (suc n) (suc m) f b a = suc-le-suc (pigeon n m g below apart)
  where
    g : ℕ → ℕ
    g i = cond (eqb (f i) n) (f m) (f i)

    last : (i : ℕ) → f i ≡ n → g i ≡ f m
    last i e = cond-true (eqb (f i) n) (f m) (f i) (eq-eqb (f i) n e)

    other : (i : ℕ) → (f i ≡ n → ⊥) → g i ≡ f i
    other i e = cond-false (eqb (f i) n) (f m) (f i) (ne_eqb (f i) n e)

    differs : (i : ℕ) → i < m → f i ≡ f m → ⊥
    differs i l e = let q : i ≡ m = a i m (omega arith) (omega arith) e in omega arith

    below : (i : ℕ) → i < m → g i < n
    below i l = pick (cases_eq (f i) n)
      where
        pick : (f i ≡ n) ⊎ (f i ≡ n → ⊥) → g i < n
        pick (inl e) =
            let u : f m < suc n = b m (omega arith) in let k : f m ≡ n → ⊥ = λ h. differs i l (e ∙ sym h) in
            let q : g i ≡ f m = last i e in omega arith
        pick (inr e) = let u : f i < suc n = b i (omega arith) in let q : g i ≡ f i = other i e in omega arith

    apart : Apart m g
    apart i j hi hj e = pick (cases_eq (f i) n) (cases_eq (f j) n)
      where
        pick : (f i ≡ n) ⊎ (f i ≡ n → ⊥) → (f j ≡ n) ⊎ (f j ≡ n → ⊥) → i ≡ j
        pick (inl p) (inl q) = a i j (omega arith) (omega arith) (p ∙ sym q)
        pick (inl p) (inr q) = absurd (differs j hj (sym (other j q) ∙ sym e ∙ last i p))
        pick (inr p) (inl q) = absurd (differs i hi (sym (other i p) ∙ e ∙ last j q))
        pick (inr p) (inr q) = a i j (omega arith) (omega arith) (sym (other i p) ∙ e ∙ other j q)
