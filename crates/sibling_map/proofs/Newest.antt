-- the newest child, and a walk along the children of a node
use Rattle.std.proofs.Common.{◌≡◌, ℕ, zero, suc, ◌<◌, ◌≤◌, List, length, Some, None, Option, sym, refl, ap, ◌∙◌, subst, inl, inr, arith}
use Rattle.std.proofs.lemmas.Bool.{cases_eq, cases_lt, eq-eqb, ne_eqb}
use Rattle.rules.specs.Tree.{Edge, edge_of}
use Rattle.sibling_map.specs.Records.{newest, parent_of, record_of}

pub newest_zero : (p : ℕ → ℕ) (u : ℕ) → newest p 0 u ≡ None
unfolding newest
newest_zero p u = refl

pub newest_here : (p : ℕ → ℕ) (n u : ℕ) → p (suc n) ≡ u → newest p (suc n) u ≡ Some (suc n)
unfolding newest
newest_here p n u e = rw (eq-eqb (p (suc n)) u e, newest) refl

pub newest_past : (p : ℕ → ℕ) (n u : ℕ) → (p (suc n) ≡ u → ⊥) → newest p (suc n) u ≡ newest p n u
unfolding newest
newest_past p n u e = rw (ne_eqb (p (suc n)) u e, newest) refl

pub newest_same : (p q : ℕ → ℕ) (n u : ℕ) → ((w : ℕ) → 0 < w → w ≤ n → p w ≡ q w) → newest p n u ≡ newest q n u
newest_same p q zero u f = newest_zero p u ∙ sym (newest_zero q u)
newest_same p q (suc n) u f =
    let e : p (suc n) ≡ q (suc n) = f (suc n) (omega arith) (omega arith) in
    let i : newest p n u ≡ newest q n u = newest_same p q n u (λ w a b. f w a (omega arith)) in
    elim (cases_eq (p (suc n)) u) [
      | inl h ↦ newest_here p n u h ∙ sym (newest_here q n u (sym e ∙ h))
      | inr d ↦ newest_past p n u d ∙ i ∙ sym (newest_past q n u (λ h. d (e ∙ h)))
    ]

pub newest_none : (p : ℕ → ℕ) (n u : ℕ) → ((w : ℕ) → 0 < w → w ≤ n → p w ≡ u → ⊥) → newest p n u ≡ None
newest_none p zero u f = newest_zero p u
newest_none p (suc n) u f = newest_past p n u (f (suc n) (omega arith) (omega arith)) ∙ newest_none p n u (λ w a b. f w a (omega arith))

-- the answer is the child of the largest number
Is : (ℕ → ℕ) → ℕ → ℕ → Option ℕ → Type 0
Is p n u (Some v) = (0 < v) × (v ≤ n) × (p v ≡ u) × ((w : ℕ) → v < w → w ≤ n → p w ≡ u → ⊥) × (newest p v u ≡ Some v)
Is p n u None = (w : ℕ) → 0 < w → w ≤ n → p w ≡ u → ⊥

past : (p : ℕ → ℕ) (n u v : ℕ) → ((w : ℕ) → v < w → w ≤ n → p w ≡ u → ⊥) → (p (suc n) ≡ u → ⊥) → (w : ℕ) → v < w → w ≤ suc n → p w ≡ u → ⊥
past p n u v f d w a b e = elim (cases_eq w (suc n)) [
  | inl q ↦ d (subst (λ (x : ℕ). p x ≡ u) q e)
  | inr q ↦ f w a (omega arith) e
]

more : (p : ℕ → ℕ) (n u : ℕ) (o : Option ℕ) → (p (suc n) ≡ u → ⊥) → Is p n u o → Is p (suc n) u o
unfolding Is
more p n u (Some v) d i = (i.0, omega (arith, i.1), i.2, past p n u v i.3 d, i.4)
more p n u None d i = past p n u 0 i d

newest_is : (p : ℕ → ℕ) (n u : ℕ) → Is p n u (newest p n u)
unfolding Is
newest_is p zero u = subst (Is p 0 u) (sym (newest_zero p u)) (λ w a b e. omega arith)
newest_is p (suc n) u = elim (cases_eq (p (suc n)) u) [
  | inl e ↦ subst (Is p (suc n) u) (sym (newest_here p n u e)) (omega arith, omega arith, e, (λ w a b q. omega arith), newest_here p n u e)
  | inr d ↦ subst (Is p (suc n) u) (sym (newest_past p n u d)) (more p n u (newest p n u) d (newest_is p n u))
]

-- the number where a walk stands, 0 at its end
abbrev pub top : Option ℕ → ℕ
top (Some v) = v
top None = 0

-- where a walk along the children of u stands: those of larger numbers have been passed, and none has the symbol c
pub record Walk (es : List Edge) (u c : ℕ) (o : Option ℕ) : Type 0 where
  pub within : top o ≤ length es
  pub here : o ≡ newest (parent_of es) (top o) u
  pub passed : (w : ℕ) → top o < w → w ≤ length es → (edge_of es w).parent ≡ u → (edge_of es w).symbol ≡ c → ⊥

-- a walk stands at the newest of the nodes 1 to n
pub stands : (es : List Edge) (u c n : ℕ) (o : Option ℕ) → o ≡ newest (parent_of es) n u → n ≤ length es
    → ((w : ℕ) → n < w → w ≤ length es → (edge_of es w).parent ≡ u → (edge_of es w).symbol ≡ c → ⊥) → Walk es u c o
unfolding Is
stands es u c n (Some v) e h f =
    let i : Is (parent_of es) n u (Some v) = subst (Is (parent_of es) n u) (sym e) (newest_is (parent_of es) n u) in
    record {
      within = omega (arith, i.1);
      here = sym i.4;
      passed = λ w a b q s. elim (cases_lt n w) [ inl m ↦ f w m b q s | inr m ↦ i.3 w a m q ];
    }
stands es u c n None e h f =
    let i : Is (parent_of es) n u None = subst (Is (parent_of es) n u) (sym e) (newest_is (parent_of es) n u) in
    record {
      within = omega arith;
      here = sym (newest_zero (parent_of es) u);
      passed = λ w a b q s. elim (cases_lt n w) [ inl m ↦ f w m b q s | inr m ↦ i w a m q ];
    }

-- the node where a walk stands
pub at_child : (es : List Edge) (u c v : ℕ) → Walk es u c (Some v) → (0 < v) × (v ≤ length es) × ((edge_of es v).parent ≡ u)
unfolding Is
at_child es u c v w =
    let i : Is (parent_of es) v u (Some v) = subst (Is (parent_of es) v u) (sym w.here) (newest_is (parent_of es) v u) in
    (i.0, w.within, i.2)

below : (es : List Edge) (u n : ℕ) (o : Option ℕ) → o ≡ newest (parent_of es) n u → top o < suc n
unfolding Is
below es u n (Some v) e =
    let i : Is (parent_of es) n u (Some v) = subst (Is (parent_of es) n u) (sym e) (newest_is (parent_of es) n u) in omega (arith, i.1)
below es u n None e = omega arith

pub first_is : (es : List Edge) (u : ℕ) → (record_of es u).first ≡ newest (parent_of es) (length es) u
first_is es zero = refl
first_is es (suc u) = refl

-- a walk begins at the first child
pub begins : (es : List Edge) (u c : ℕ) → Walk es u c (record_of es u).first
begins es u c = stands es u c (length es) (record_of es u).first (first_is es u) (omega arith) (λ w a b q s. omega arith)

-- one turn of a walk
pub goes_on : (es : List Edge) (u c v : ℕ) → Walk es u c (Some v) → ((edge_of es v).symbol ≡ c → ⊥)
    → Walk es u c (record_of es v).next × (top (record_of es v).next < v)
goes_on es u c zero w other = absurd (omega (arith, (at_child es u c 0 w).0))
goes_on es u c (suc v) w other =
    let k = at_child es u c (suc v) w in
    let e : newest (parent_of es) v (parent_of es (suc v)) ≡ newest (parent_of es) v u = ap (newest (parent_of es) v) k.2 in
    let within : v ≤ length es = omega (arith, k.1) in
    (stands es u c v _ e within turn, below es u v _ e)
  where
    turn : (x : ℕ) → v < x → x ≤ length es → (edge_of es x).parent ≡ u → (edge_of es x).symbol ≡ c → ⊥
    turn x a b q s = elim (cases_eq x (suc v)) [
      | inl h ↦ other (subst (λ (y : ℕ). (edge_of es y).symbol ≡ c) h s)
      | inr h ↦ w.passed x (omega arith) b q s
    ]
