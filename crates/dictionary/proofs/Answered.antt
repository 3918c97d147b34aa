-- what the parts answer where no fault comes, and what an answer tells
use Rattle.std.proofs.Common.{◌≡◌, ℕ, zero, suc, ◌-◌, ◌<◌, List, Some, None, Ok, Err, Option, Result, sym, refl, ap, ◌∙◌, subst, inl, inr, arith}
use Rattle.rules.specs.declared.step.Step.TheVariants.{By32}
use Rattle.rules.specs.Steps.{step_symbol}
use Rattle.rules.specs.Tree.{Edge, node_count, child, Down, down}
use Rattle.rules.proofs.Places.{child_cases}

module _ {X E : Type 0} where
  pub ok_is : {a b : X} → ◌≡◌ {A = Result X E} (Ok a) (Ok b) → a ≡ b
  ok_is e = cc

  pub err_is : {e f : E} → ◌≡◌ {A = Result X E} (Err e) (Err f) → e ≡ f
  err_is q = cc

  pub err_not : {a : X} {e : E} → ◌≡◌ {A = Result X E} (Err e) (Ok a) → ⊥
  err_not q = let z : ◌≡◌ {A = ℕ} 0 1 = cc in omega arith

  pub ok_not : {a : X} {e : E} → ◌≡◌ {A = Result X E} (Ok a) (Err e) → ⊥
  ok_not q = let z : ◌≡◌ {A = ℕ} 0 1 = cc in omega arith

module _ (edges : List Edge) where
  pub child_in : (u c v : ℕ) → child edges u c ≡ Some v → v < node_count edges
  child_in u c v e = elim (child_cases edges u c) [
    | inl g ↦ absurd (let q : None ≡ Some v = sym g.0 ∙ e in let z : ◌≡◌ {A = ℕ} 0 1 = cc in omega arith)
    | inr g ↦ let q : Some g.0 ≡ Some v = sym g.2 ∙ e in let z : g.0 ≡ v = cc in omega (arith, g.1)
  ]

  down_some : (k u v : ℕ) → 0 < k → child edges u (step_symbol By32) ≡ Some v → down By32 edges k u ≡ down By32 edges (k - 1) v
  unfolding down
  down_some zero u v h e = absurd (omega arith)
  down_some (suc k) u v h e = let z : suc k - 1 ≡ k = omega arith in rw (e, z, down) refl

  down_none : (k u : ℕ) → 0 < k → child edges u (step_symbol By32) ≡ None → down By32 edges k u ≡ record { node = u; missing = k }
  unfolding down
  down_none zero u h e = absurd (omega arith)
  down_none (suc k) u h e = rw (e, down) refl

  down_zero : (u : ℕ) → down By32 edges 0 u ≡ record { node = u; missing = 0 }
  unfolding down
  down_zero u = refl

  down_in : (k u : ℕ) → u < node_count edges → (down By32 edges k u).node < node_count edges
  unfolding down
  down_in zero u h = h
  down_in (suc k) u h = elim (child_cases edges u (step_symbol By32)) [
    | inl g ↦ rw (g.0, down) h
    | inr g ↦ rw (g.2, down) (down_in k g.0 g.1)
  ]

  down_missing : (k u : ℕ) → 0 < (down By32 edges k u).missing → child edges (down By32 edges k u).node (step_symbol By32) ≡ None
  unfolding down
  down_missing zero u = λ h. absurd (omega arith)
  down_missing (suc k) u = elim (child_cases edges u (step_symbol By32)) [
    | inl g ↦ rw (g.0, down) (λ h. g.0)
    | inr g ↦ rw (g.2, down) (down_missing k g.0)
  ]

  -- the node that steps reach is there, and where steps are missing it has no step child
  pub reached_in : (k u v j : ℕ) → u < node_count edges → ◌≡◌ {A = Down} (record { node = v; missing = j }) (down By32 edges k u) → v < node_count edges
  reached_in k u v j h e = let q : v ≡ (down By32 edges k u).node = ap (λ (d : Down). d.node) e in omega (arith, down_in k u h)

  pub reached_stop : (k u v j : ℕ) → ◌≡◌ {A = Down} (record { node = v; missing = j }) (down By32 edges k u) → 0 < j → child edges v (step_symbol By32) ≡ None
  reached_stop k u v j e = subst (λ (d : Down). 0 < d.missing → child edges d.node (step_symbol By32) ≡ None) (sym e) (down_missing k u)

  -- on the way down k steps from u
  pub record Stepped (k u missing node : ℕ) : Type 0 where
    pub inside : node < node_count edges
    pub rest : down By32 edges missing node ≡ down By32 edges k u

  at_step : (o : Option ℕ) (u c : ℕ) → c ≡ step_symbol By32 → o ≡ child edges u c → child edges u (step_symbol By32) ≡ o
  at_step o u c z e = ap (λ (q : ℕ). child edges u q) (sym z) ∙ sym e

  pub stepped_more : (k u missing fewer node c v : ℕ) → fewer ≡ missing - 1 → 0 < missing → Stepped k u missing node → c ≡ step_symbol By32 → Some v ≡ child edges node c → Stepped k u fewer v
  stepped_more k u missing fewer node c v f h s z e = rw f (record {
    inside = child_in node c v (sym e);
    rest = sym (down_some missing node v h (at_step (Some v) node c z e)) ∙ s.rest;
  })

  pub stepped_end : (k u missing node c : ℕ) → 0 < missing → Stepped k u missing node → c ≡ step_symbol By32 → None ≡ child edges node c
      → ◌≡◌ {A = Down} (record { node = node; missing = missing }) (down By32 edges k u)
  stepped_end k u missing node c h s z e = sym (down_none missing node h (at_step None node c z e)) ∙ s.rest

  pub stepped_all : (k u missing node : ℕ) → missing ≡ 0 → Stepped k u missing node → ◌≡◌ {A = Down} (record { node = node; missing = 0 }) (down By32 edges k u)
  stepped_all k u missing node z s = sym (down_zero node) ∙ ap (λ (q : ℕ). down By32 edges q node) (sym z) ∙ s.rest
