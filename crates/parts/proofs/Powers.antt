-- memory sizes and rooms of powers of two
use Rattle.std.proofs.Common.{◌≡◌, ℕ, zero, suc, ◌+◌, ◌-◌, ◌*◌, ◌/◌, ◌%◌, ◌^◌, ◌<◌, ◌≤◌, [], ◌∷◌, Some, None, Option, sym, refl, ap, ◌∙◌, subst, inl, inr, mul-div_cancel, ◌≢◌, ◌==◌, arith, pow_pos}
use native.Mathlib.Nat.{mul-mod_left}
use Rattle.std.proofs.lemmas.Nat.{div-add-mod'}
use Rattle.std.proofs.lemmas.Bool.{cases_eq, eq-eqb, ne_eqb}
use Rattle.parts.specs.Maps.{last_of, Rising}
use Rattle.parts.specs.Sizes.{power_from, power_for, PowerOf, rooms_after, rooms_to}

pub power_here : (t k n part : ℕ) → 0 < t → n ≡ part * 2 ^ k → power_from t k n part ≡ Some k
unfolding power_from
power_here zero k n part z e = absurd (omega arith)
power_here (suc t) k n part z e = rw (eq-eqb n (part * 2 ^ k) e, power_from) refl

pub power_past : (t s k next n part : ℕ) → t ≡ suc s → suc k ≡ next → (n ≡ part * 2 ^ k → ⊥)
    → power_from t k n part ≡ power_from s next n part
unfolding power_from
power_past t s k next n part e f z = ap (λ (x : ℕ). power_from x k n part) e ∙ one ∙ ap (λ (x : ℕ). power_from s x n part) f
  where
    one : power_from (suc s) k n part ≡ power_from s (suc k) n part
    one = rw (ne_eqb n (part * 2 ^ k) z, power_from) refl

pub power_none : (t k n part : ℕ) → t ≡ 0 → power_from t k n part ≡ None
unfolding power_from
power_none zero k n part e = refl
power_none (suc t) k n part e = absurd (omega arith)

-- what t tries from k on answer
Tried : ℕ → ℕ → ℕ → ℕ → Option ℕ → Type 0
Tried t k n part (Some j) = (n ≡ part * 2 ^ j) × (k ≤ j) × (j < k + t)
Tried t k n part None = (j : ℕ) → k ≤ j → j < k + t → n ≡ part * 2 ^ j → ⊥

one_more : (t k n part : ℕ) (o : Option ℕ) → (n ≡ part * 2 ^ k → ⊥) → Tried t (suc k) n part o → Tried (suc t) k n part o
unfolding Tried
one_more t k n part (Some j) z h = (h.0, omega (arith, h.1), omega (arith, h.2))
one_more t k n part None z h = λ j a b e. elim (cases_eq j k) [
  | inl q ↦ z (e ∙ ap (λ (x : ℕ). part * 2 ^ x) q)
  | inr q ↦ h j (omega arith) (omega arith) e
]

tried : (t k n part : ℕ) → Tried t k n part (power_from t k n part)
unfolding Tried
tried zero k n part = subst (Tried 0 k n part) (sym (power_none 0 k n part refl)) (λ j a b e. omega arith)
tried (suc t) k n part = elim (cases_eq n (part * 2 ^ k)) [
  | inl e ↦ subst (Tried (suc t) k n part) (sym (power_here (suc t) k n part (omega arith) e)) (e, omega arith, omega arith)
  | inr z ↦ subst (Tried (suc t) k n part) (sym (power_past (suc t) t k (suc k) n part refl refl z)) (one_more t k n part (power_from t (suc k) n part) z (tried t (suc k) n part))
]

up_to_15 : (n part : ℕ) (o : Option ℕ) → Tried 12 4 n part o → PowerOf n part o
unfolding Tried
up_to_15 n part (Some k) h = (h.0, h.1, omega (arith, h.2))
up_to_15 n part None h = λ k a b e. h k a (omega arith) e

pub power_of : (n part : ℕ) → PowerOf n part (power_for n part)
power_of n part = up_to_15 n part (power_for n part) (tried 12 4 n part)

-- the first of the numbers tried that fits
pub power_first : (t k i n part : ℕ) → k ≤ i → i < k + t → n ≡ part * 2 ^ i → ((j : ℕ) → k ≤ j → j < i → n ≢ part * 2 ^ j) → power_from t k n part ≡ Some i
power_first zero k i n part a b e f = absurd (omega arith)
power_first (suc t) k i n part a b e f = elim (cases_eq i k) [
  | inl q ↦ power_here (suc t) k n part (omega arith) (e ∙ ap (λ (x : ℕ). part * 2 ^ x) q) ∙ ap Some (sym q)
  | inr z ↦ power_past (suc t) t k (suc k) n part refl refl (f k (omega arith) (omega arith)) ∙ power_first t (suc k) i n part (omega arith) (omega arith) e (λ j p q. f j (omega arith) q)
]

-- none of the numbers tried fits
pub power_nowhere : (t k n part : ℕ) → ((j : ℕ) → k ≤ j → j < k + t → n ≢ part * 2 ^ j) → power_from t k n part ≡ None
power_nowhere zero k n part f = power_none 0 k n part refl
power_nowhere (suc t) k n part f =
    power_past (suc t) t k (suc k) n part refl refl (f k (omega arith) (omega arith)) ∙ power_nowhere t (suc k) n part (λ j p q. f j (omega arith) (omega arith))

-- how the code tests that n is part * 2 ^ k
module _ (n part k m : ℕ) (is : m ≡ 2 ^ k) where
  pub parts_make : n % m ≡ 0 → n / m ≡ part → n ≡ part * 2 ^ k
  parts_make e f =
      let d : n / m * m + n % m ≡ n = div-add-mod' n m in
      let g : n / m * m ≡ part * 2 ^ k = cc in omega arith

  pub parts_whole : n ≡ part * 2 ^ k → n % m ≡ 0
  parts_whole e = let f : n ≡ part * m = cc in ap (λ (x : ℕ). x % m) f ∙ mul-mod_left part m

  pub parts_many : n ≡ part * 2 ^ k → n / m ≡ part
  parts_many e =
      let f : n ≡ part * m = cc in
      let z : 0 < m = subst (λ (x : ℕ). 0 < x) (sym is) (pow_pos k) in
      ap (λ (x : ℕ). x / m) f ∙ mul-div_cancel part z

  -- the rest decides where it is not 0, else the quotient
  pub tested : n % m ≡ 0 → (n / 2 ^ k == part) ≡ (n == part * 2 ^ k)
  tested e = ap (λ (x : ℕ). n / x == part) (sym is) ∙ elim (cases_eq n (part * 2 ^ k)) [
    | inl f ↦ eq-eqb (n / m) part (parts_many f) ∙ sym (eq-eqb n (part * 2 ^ k) f)
    | inr z ↦ ne_eqb (n / m) part (λ f. z (parts_make e f)) ∙ sym (ne_eqb n (part * 2 ^ k) z)
  ]

  pub not_whole : n % m ≢ 0 → (n % m == 0) ≡ (n == part * 2 ^ k)
  not_whole f = ne_eqb (n % m) 0 f ∙ sym (ne_eqb n (part * 2 ^ k) (λ e. f (parts_whole e)))

pub rooms_next : (capacity : ℕ → ℕ) (k next top : ℕ) → suc k ≡ next → k < top
    → rooms_to capacity k top ≡ capacity (2 ^ next) ∷ rooms_to capacity next top
unfolding rooms_after
rooms_next capacity k next top e h =
    let f : top - k ≡ suc (top - suc k) = omega arith in
    ap (rooms_after capacity k) f ∙ ap (λ (x : ℕ). capacity (2 ^ x) ∷ rooms_to capacity x top) e

pub rooms_end : (capacity : ℕ → ℕ) (k top : ℕ) → top ≤ k → rooms_to capacity k top ≡ []
unfolding rooms_after
rooms_end capacity k top h = let e : top - k ≡ 0 = omega arith in ap (rooms_after capacity k) e

last_after : (capacity : ℕ → ℕ) (k more : ℕ) → last_of (capacity (2 ^ k)) (rooms_after capacity k more) ≡ capacity (2 ^ (k + more))
unfolding rooms_after
last_after capacity k zero = let e : k ≡ k + 0 = omega arith in ap (λ (x : ℕ). capacity (2 ^ x)) e
last_after capacity k (suc more) =
    let e : suc k + more ≡ k + suc more = omega arith in last_after capacity (suc k) more ∙ ap (λ (x : ℕ). capacity (2 ^ x)) e

pub rooms_last : (capacity : ℕ → ℕ) (k top : ℕ) → k ≤ top → last_of (capacity (2 ^ k)) (rooms_to capacity k top) ≡ capacity (2 ^ top)
rooms_last capacity k top h =
    let e : k + (top - k) ≡ top = omega arith in last_after capacity k (top - k) ∙ ap (λ (x : ℕ). capacity (2 ^ x)) e

rising_after : (capacity : ℕ → ℕ) (k more : ℕ) → ((j : ℕ) → k ≤ j → j < k + more → capacity (2 ^ j) < capacity (2 ^ suc j))
    → capacity (2 ^ (k + more)) ≤ 32768 → Rising (capacity (2 ^ k)) (rooms_after capacity k more)
unfolding rooms_after
rising_after capacity k zero up most = let e : k + 0 ≡ k = omega arith in subst (λ (x : ℕ). capacity (2 ^ x) ≤ 32768) e most
rising_after capacity k (suc more) up most =
    let e : k + suc more ≡ suc k + more = omega arith in (
      up k (omega arith) (omega arith),
      rising_after capacity (suc k) more (λ j a b. up j (omega arith) (omega arith)) (subst (λ (x : ℕ). capacity (2 ^ x) ≤ 32768) e most),
    )

-- rooms rise where the capacity of slots does
pub rooms_rising : (capacity : ℕ → ℕ) (k top : ℕ) → k ≤ top → ((j : ℕ) → k ≤ j → j < top → capacity (2 ^ j) < capacity (2 ^ suc j))
    → capacity (2 ^ top) ≤ 32768 → Rising (capacity (2 ^ k)) (rooms_to capacity k top)
rooms_rising capacity k top h up most =
    let e : top ≡ k + (top - k) = omega arith in
    rising_after capacity k (top - k) (λ j a b. up j a (omega arith)) (subst (λ (x : ℕ). capacity (2 ^ x) ≤ 32768) e most)
