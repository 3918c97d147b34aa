-- the child by a symbol, and a node more: what every make of a node map needs
use Rattle.std.proofs.Common.{◌≡◌, ℕ, suc, ◌+◌, ◌-◌, ◌<◌, ◌≤◌, true, false, ◌&&◌, eqb, List, [], ◌∷◌, ◌++◌, length, get_or, Some, None, Option, sym, refl, ap, ◌∙◌, subst, ap₂, inl, inr, arith, length-append}
use Rattle.std.proofs.lemmas.List.{get_or_append_left, get_or_push}
use Rattle.std.proofs.lemmas.Bool.{cases_Bool, cases_eq, and_parts, and_from, eqb-true, eq-eqb, both_ways}
use Rattle.rules.specs.declared.step.Step.{Step}
use Rattle.rules.specs.Steps.{symbol_count}
use Rattle.rules.specs.Tree.{Edge, node_count, edge_of, child_from, child}
use Rattle.parts.specs.Maps.{Map, MapFacts, count_of, with_edge}

abbrev no_edge : Edge
no_edge = record { parent = 0; symbol = 0 }

-- what the answer says of the nodes numbered from k on
ChildFrom : List Edge → ℕ → ℕ → ℕ → Option ℕ → Type 0
ChildFrom es k u c (Some v) = (k ≤ v) × (v < k + length es) × ((get_or es (v - k) no_edge).parent ≡ u) × ((get_or es (v - k) no_edge).symbol ≡ c)
ChildFrom es k u c None = (v : ℕ) → k ≤ v → v < k + length es → (get_or es (v - k) no_edge).parent ≡ u → (get_or es (v - k) no_edge).symbol ≡ c → ⊥

child_here : (e : Edge) (es : List Edge) (k u c : ℕ) → (eqb e.parent u && eqb e.symbol c) ≡ true → child_from (e ∷ es) k u c ≡ Some k
unfolding child_from
child_here e es k u c t = rw (t, child_from) refl

child_past : (e : Edge) (es : List Edge) (k u c : ℕ) → (eqb e.parent u && eqb e.symbol c) ≡ false
    → child_from (e ∷ es) k u c ≡ child_from es (suc k) u c
unfolding child_from
child_past e es k u c t = rw (t, child_from) refl

first_is : (e : Edge) (es : List Edge) (k u c : ℕ) → e.parent ≡ u → e.symbol ≡ c → ChildFrom (e ∷ es) k u c (Some k)
unfolding ChildFrom
first_is e es k u c p q =
    let z : k - k ≡ 0 = omega arith in
    let g : get_or (e ∷ es) (k - k) no_edge ≡ e = ap (λ (i : ℕ). get_or (e ∷ es) i no_edge) z in
    (omega arith, omega arith, ap (λ (x : Edge). x.parent) g ∙ p, ap (λ (x : Edge). x.symbol) g ∙ q)

later_is : (e : Edge) (es : List Edge) (k u c : ℕ) (o : Option ℕ) → (e.parent ≡ u → e.symbol ≡ c → ⊥)
    → ChildFrom es (suc k) u c o → ChildFrom (e ∷ es) k u c o
unfolding ChildFrom
later_is e es k u c (Some v) other h =
    let j : v - k ≡ suc (v - suc k) = omega (arith, h.0) in
    let g : get_or (e ∷ es) (v - k) no_edge ≡ get_or es (v - suc k) no_edge = ap (λ (i : ℕ). get_or (e ∷ es) i no_edge) j in
    (omega (arith, h.0), omega (arith, h.1), ap (λ (x : Edge). x.parent) g ∙ h.2, ap (λ (x : Edge). x.symbol) g ∙ h.3)
later_is e es k u c None other h = λ v a b p q. elim (cases_eq v k) [
  | inl d ↦
      let z : v - k ≡ 0 = omega arith in
      let g : get_or (e ∷ es) (v - k) no_edge ≡ e = ap (λ (i : ℕ). get_or (e ∷ es) i no_edge) z in
      other (sym (ap (λ (x : Edge). x.parent) g) ∙ p) (sym (ap (λ (x : Edge). x.symbol) g) ∙ q)
  | inr d ↦
      let j : v - k ≡ suc (v - suc k) = omega arith in
      let g : get_or (e ∷ es) (v - k) no_edge ≡ get_or es (v - suc k) no_edge = ap (λ (i : ℕ). get_or (e ∷ es) i no_edge) j in
      h v (omega arith) (omega arith) (sym (ap (λ (x : Edge). x.parent) g) ∙ p) (sym (ap (λ (x : Edge). x.symbol) g) ∙ q)
]

child_from_lem : (es : List Edge) (k u c : ℕ) → ChildFrom es k u c (child_from es k u c)
unfolding ChildFrom child_from
child_from_lem [] k u c = λ v a b p q. omega arith
child_from_lem (e ∷ es) k u c = elim (cases_Bool (eqb e.parent u && eqb e.symbol c)) [
  | inl t ↦
      let b = and_parts (eqb e.parent u) (eqb e.symbol c) t in
      subst (ChildFrom (e ∷ es) k u c) (sym (child_here e es k u c t))
      (first_is e es k u c (eqb-true e.parent u b.0) (eqb-true e.symbol c b.1))
  | inr t ↦
      subst (ChildFrom (e ∷ es) k u c) (sym (child_past e es k u c t))
      (later_is e es k u c (child_from es (suc k) u c)
      (λ p q. both_ways (eqb e.parent u && eqb e.symbol c) t (and_from (eqb e.parent u) (eqb e.symbol c) (eq-eqb e.parent u p) (eq-eqb e.symbol c q)))
      (child_from_lem es (suc k) u c))
]

-- no node hangs below u by the symbol c
abbrev pub NoChild : List Edge → ℕ → ℕ → Type 0
NoChild es u c = (v : ℕ) → 0 < v → v < node_count es → (edge_of es v).parent ≡ u → (edge_of es v).symbol ≡ c → ⊥

none_is : (es : List Edge) (u c : ℕ) (o : Option ℕ) → ChildFrom es 1 u c o → NoChild es u c → o ≡ None
unfolding ChildFrom
none_is es u c (Some v) h free = absurd (free v (omega (arith, h.0)) (omega (arith, h.1)) h.2 h.3)
none_is es u c None h free = refl

pub child_none : (es : List Edge) (u c : ℕ) → NoChild es u c → child es u c ≡ None
child_none es u c free = none_is es u c (child es u c) (child_from_lem es 1 u c) free

is_none : (es : List Edge) (u c : ℕ) (o : Option ℕ) → ChildFrom es 1 u c o → o ≡ None → NoChild es u c
unfolding ChildFrom
is_none es u c (Some v) h e = absurd (let z : ◌≡◌ {A = ℕ} 0 1 = cc in omega arith)
is_none es u c None h e = λ v a b p q. h v a (omega arith) p q

pub no_child : (es : List Edge) (u c : ℕ) → child es u c ≡ None → NoChild es u c
no_child es u c e = is_none es u c (child es u c) (child_from_lem es 1 u c) e

some_is : (es : List Edge) (u c v : ℕ) (o : Option ℕ) → ChildFrom es 1 u c o
    → ((w : ℕ) → 0 < w → w < node_count es → (edge_of es w).parent ≡ u → (edge_of es w).symbol ≡ c → w ≡ v)
    → 0 < v → v < node_count es → (edge_of es v).parent ≡ u → (edge_of es v).symbol ≡ c → o ≡ Some v
unfolding ChildFrom
some_is es u c v (Some w) h same a b p q = ap Some (same w (omega (arith, h.0)) (omega (arith, h.1)) h.2 h.3)
some_is es u c v None h same a b p q = absurd (h v a (omega arith) p q)

pub edge_is : (x y : Edge) → x.parent ≡ y.parent → x.symbol ≡ y.symbol → x ≡ y
edge_is x y p q = ap₂ (λ (i j : ℕ). record { parent = i; symbol = j }) p q

-- the child is the node with the pair
pub child_some : (step : Step) (m : Map) (u c v : ℕ) → MapFacts step m → 0 < v → v < count_of m
    → (edge_of m.edges v).parent ≡ u → (edge_of m.edges v).symbol ≡ c → child m.edges u c ≡ Some v
child_some step m u c v facts a b p q =
    some_is m.edges u c v (child m.edges u c) (child_from_lem m.edges 1 u c)
    (λ w f g r s. facts.distinct w v f g a b (edge_is (edge_of m.edges w) (edge_of m.edges v) (r ∙ sym p) (s ∙ sym q))) a b p q

pub edge_old : (es : List Edge) (e : Edge) (v : ℕ) → 0 < v → v < node_count es → edge_of (es ++ (e ∷ [])) v ≡ edge_of es v
edge_old es e v a b = get_or_append_left es (e ∷ []) no_edge (v - 1) (omega arith)

pub edge_new : (es : List Edge) (e : Edge) (v : ℕ) → v ≡ node_count es → edge_of (es ++ (e ∷ [])) v ≡ e
edge_new es e v is = get_or_push es e no_edge (v - 1) (omega arith)

pub count_more : (es : List Edge) (e : Edge) → node_count (es ++ (e ∷ [])) ≡ suc (node_count es)
count_more es e = omega (arith, length-append es (e ∷ []))

-- what holds of a map holds of it with a node more
pub facts_more : (step : Step) (m : Map) (u c : ℕ) → MapFacts step m → u < count_of m → c < symbol_count step → NoChild m.edges u c
    → count_of m < m.room → MapFacts step (with_edge m u c)
facts_more step m u c facts low small free room = record {
  parents = λ v a b. elim (cases_eq v (count_of m)) [
    | inl e ↦ omega (arith, ap (λ (x : Edge). x.parent) (edge_new m.edges new v e))
    | inr e ↦ let l : v < count_of m = omega (arith, more) in omega (arith, ap (λ (x : Edge). x.parent) (edge_old m.edges new v a l), facts.parents v a l)
  ];
  symbols = λ v a b. elim (cases_eq v (count_of m)) [
    | inl e ↦ omega (arith, ap (λ (x : Edge). x.symbol) (edge_new m.edges new v e))
    | inr e ↦ let l : v < count_of m = omega (arith, more) in omega (arith, ap (λ (x : Edge). x.symbol) (edge_old m.edges new v a l), facts.symbols v a l)
  ];
  distinct = λ v w a b f g e. elim (cases_eq v (count_of m)) [
    | inl p ↦ elim (cases_eq w (count_of m)) [
      | inl q ↦ p ∙ sym q
      | inr q ↦ absurd (apart w f (omega (arith, more)) (sym e ∙ edge_new m.edges new v p))
    ]
    | inr p ↦ elim (cases_eq w (count_of m)) [
      | inl q ↦ absurd (apart v a (omega (arith, more)) (e ∙ edge_new m.edges new w q))
      | inr q ↦
          let k : v < count_of m = omega (arith, more) in
          let l : w < count_of m = omega (arith, more) in
          facts.distinct v w a k f l (sym (edge_old m.edges new v a k) ∙ e ∙ edge_old m.edges new w f l)
    ]
  ];
  fits = omega (arith, more);
  rooms = facts.rooms;
}
  where
    new : Edge
    new = record { parent = u; symbol = c }

    more : node_count (m.edges ++ (record { parent = u; symbol = c } ∷ [])) ≡ suc (count_of m)
    more = count_more m.edges (record { parent = u; symbol = c })

    apart : (w : ℕ) → 0 < w → w < count_of m → edge_of (m.edges ++ (record { parent = u; symbol = c } ∷ [])) w ≡ record { parent = u; symbol = c } → ⊥
    apart w a b e =
        let f : edge_of m.edges w ≡ record { parent = u; symbol = c } = sym (edge_old m.edges (record { parent = u; symbol = c }) w a b) ∙ e in
        free w a b (ap (λ (x : Edge). x.parent) f) (ap (λ (x : Edge). x.symbol) f)
