-- what each node of the tree stands for: a row, or the k-th step below a row
use Rattle.std.proofs.Common.{◌≡◌, ℕ, zero, suc, ◌+◌, ◌-◌, ◌/◌, ◌<◌, ◌≤◌, min, true, false, ◌&&◌, eqb, ◌⊎◌, List, [], ◌∷◌, length, get_or, drop, Some, None, sym, refl, ap, ◌∙◌, subst, inl, inr, arith}
use Rattle.std.proofs.lemmas.Bool.{cases_lt, cases_Bool, eq-eqb, eqb-true, and_parts, and_from, both_ways}
use Rattle.rules.specs.declared.step.Step.{Step}
use Rattle.rules.specs.Steps.{size, step_symbol, branch_symbol}
use Rattle.rules.specs.Tree.{Edge, Tree, node_count, edge_of, label_of, child_from, child, down}
use Rattle.rules.specs.Book.{Row, row_at, word, owns, steps_of, nodes}
use Rattle.rules.proofs.Steps.{branch_below, branch_same}
use Rattle.rules.proofs.Bytes.{byte_below}
use Rattle.rules.proofs.Rows.{owner_row, BookOk}

-- the place of a node: the row, and how many steps below the row's ticket
pub record Place : Type 0 where
  pub row : ℕ
  pub depth : ℕ

abbrev pub place : ℕ → ℕ → Place
place j k = record { row = j; depth = k }

abbrev pub place_at : List Place → ℕ → Place
place_at places v = get_or places v (place 0 0)

-- no place is two nodes'
abbrev pub Once : List Place → Type 0
Once places = (v w : ℕ) → v < length places → w < length places → place_at places v ≡ place_at places w → v ≡ w

-- the edge at an index of the list goes from u by the symbol c
abbrev Leads : List Edge → ℕ → ℕ → ℕ → Type 0
Leads edges u c i = ((get_or edges i (record { parent = 0; symbol = 0 })).parent ≡ u) × ((get_or edges i (record { parent = 0; symbol = 0 })).symbol ≡ c)

-- w is a child of u by the symbol c
abbrev pub IsChild : List Edge → ℕ → ℕ → ℕ → Type 0
IsChild edges u c w = (0 < w) × ((edge_of edges w).parent ≡ u) × ((edge_of edges w).symbol ≡ c)

none_of : (e : Edge) (es : List Edge) (u c : ℕ) → (eqb e.parent u && eqb e.symbol c) ≡ false
    → ((i : ℕ) → i < length es → Leads es u c i → ⊥) → (i : ℕ) → i < length (e ∷ es) → Leads (e ∷ es) u c i → ⊥
none_of e es u c f g zero h q =
    both_ways (eqb e.parent u && eqb e.symbol c) f (and_from (eqb e.parent u) (eqb e.symbol c) (eq-eqb e.parent u q.0) (eq-eqb e.symbol c q.1))
none_of e es u c f g (suc i) h q = g i (omega arith) q

child_from_cases : (edges : List Edge) (v u c : ℕ)
    → ((child_from edges v u c ≡ None) × ((i : ℕ) → i < length edges → Leads edges u c i → ⊥))
    ⊎ ((i : ℕ) × (i < length edges) × (child_from edges v u c ≡ Some (v + i)) × Leads edges u c i)
unfolding child_from
child_from_cases [] v u c = inl (refl, λ i h. absurd (omega arith))
child_from_cases (e ∷ es) v u c = elim (cases_Bool (eqb e.parent u && eqb e.symbol c)) [
  | inl t ↦
      let k = and_parts (eqb e.parent u) (eqb e.symbol c) t in
      let z : v + 0 ≡ v = omega arith in
      inr (0, omega arith, rw (t, z, child_from) refl, (eqb-true e.parent u k.0, eqb-true e.symbol c k.1))
  | inr f ↦
      let q : child_from (e ∷ es) v u c ≡ child_from es (suc v) u c = rw (f, child_from) refl in
      elim (child_from_cases es (suc v) u c) [
        | inl g ↦ inl (q ∙ g.0, none_of e es u c f g.1)
        | inr g ↦ let z : suc v + g.0 ≡ v + suc g.0 = omega arith in
            inr (suc g.0, omega (arith, g.1), q ∙ g.2 ∙ ap Some z, g.3)
      ]
]

-- no child, or one found
pub child_cases : (edges : List Edge) (u c : ℕ)
    → ((child edges u c ≡ None) × ((w : ℕ) → w < node_count edges → IsChild edges u c w → ⊥))
    ⊎ ((w : ℕ) × (w < node_count edges) × (child edges u c ≡ Some w) × IsChild edges u c w)
child_cases edges u c = elim (child_from_cases edges 1 u c) [
  | inl g ↦ inl (g.0, λ w h q. g.1 (w - 1) (omega (arith, q.0)) (q.1, q.2))
  | inr g ↦
      let z : 1 + g.0 ≡ suc g.0 = omega arith in
      let i : g.0 ≡ suc g.0 - 1 = omega arith in
      let l = subst (λ (k : ℕ). Leads edges u c k) i g.3 in
      inr (suc g.0, omega (arith, g.1), g.2 ∙ ap Some z, (omega arith, l.0, l.1))
]

module _ {V : Type 0} where
  -- the byte by which a row leaves its owner
  abbrev pub byte : List (Row V) → ℕ → ℕ
  byte rows j = get_or (word rows j) ((row_at rows j).start - 1) 0

module _ {V : Type 0} (step : Step) where
  -- node 0 is the first row's; any other is a later row's, below its owner, or a step's
  pub data NodeIs (t : Tree) (rows : List (Row V)) (places : List Place) (v : ℕ) : Type 0 where
    top : v ≡ 0 → place_at places v ≡ place 0 0 → label_of t v ≡ drop (row_at rows 0).start (word rows 0) → NodeIs t rows places v
    of_row : (j : ℕ) → 0 < j → j < length rows → place_at places v ≡ place j 0
        → (edge_of t.edges v).parent < v → place_at places (edge_of t.edges v).parent ≡ place (owner_row (row_at rows j)) ((row_at rows j).offset / size step)
        → (edge_of t.edges v).symbol ≡ branch_symbol step (byte rows j) (row_at rows j).offset → label_of t v ≡ drop (row_at rows j).start (word rows j) → NodeIs t rows places v
    of_step : (o k : ℕ) → o < length rows → k < steps_of step o rows → place_at places v ≡ place o (suc k)
        → (edge_of t.edges v).parent < v → place_at places (edge_of t.edges v).parent ≡ place o k
        → (edge_of t.edges v).symbol ≡ step_symbol step → label_of t v ≡ [] → NodeIs t rows places v

  -- every node has its place, every row and step has one node
  pub record TreeOk (t : Tree) (rows : List (Row V)) (places : List Place) : Type 0 where
    pub edges_count : node_count t.edges ≡ length places
    pub labels_count : length t.labels ≡ length places
    pub total : length places ≡ nodes rows
    pub node : (v : ℕ) → v < length places → NodeIs t rows places v
    pub row_at_lem : (j : ℕ) → j < length rows → ((row_at rows j).ticket < length places) × (place_at places (row_at rows j).ticket ≡ place j 0)
    pub step_at : (o k : ℕ) → o < length rows → k ≤ steps_of step o rows → (v : ℕ) × (v < length places) × (place_at places v ≡ place o k)
    pub once : Once places

  -- no row that o owns is deeper than the steps of o
  pub steps_bound : (rows : List (Row V)) (o j : ℕ) → j < length rows → owns o (row_at rows j) ≡ true → (row_at rows j).offset / size step ≤ steps_of step o rows
  unfolding steps_of
  steps_bound [] o j h e = absurd (omega arith)
  steps_bound (r ∷ rs) o zero h e = rw (e, steps_of) (omega arith)
  steps_bound (r ∷ rs) o (suc j) h e =
      let b = steps_bound rs o j (omega arith) e in
      elim (cases_Bool (owns o r)) [
        | inl f ↦ rw (f, steps_of) (omega arith)
        | inr n ↦ rw (n, steps_of) b
      ]

  module _ (t : Tree) (rows : List (Row V)) (places : List Place) (tr : TreeOk t rows places) (ok : BookOk step rows) where
    -- the place of a step child, from its parent's
    step_name : (u o k v : ℕ) → v < length places → place_at places u ≡ place o k → IsChild t.edges u (step_symbol step) v → (k < steps_of step o rows) × (place_at places v ≡ place o (suc k))
    step_name u o k v h e c = go (tr.node v h)
      where
        go : NodeIs t rows places v → (k < steps_of step o rows) × (place_at places v ≡ place o (suc k))
        go (top z n l) = absurd (omega (arith, z, c.0))
        go (of_row j z jl n ul un s l) = absurd (omega (arith, s, c.2, branch_below step (byte rows j) (row_at rows j).offset (byte_below (row_at rows j).tag (ok.bytes j jl) ((row_at rows j).start - 1))))
        go (of_step o' k' ol kl n ul un s l) =
            let q : place o k ≡ place o' k' = sym e ∙ ap (λ (x : ℕ). place_at places x) (sym c.1) ∙ un in
            let qo : o ≡ o' = ap (λ (x : Place). x.row) q in
            let qk : k ≡ k' = ap (λ (x : Place). x.depth) q in
            (rw (qo, qk) kl, rw (qo, qk) n)

    pub step_child : (u o k : ℕ) → u < length places → o < length rows → place_at places u ≡ place o k → k < steps_of step o rows
        → (v : ℕ) × (v < length places) × (child t.edges u (step_symbol step) ≡ Some v) × (place_at places v ≡ place o (suc k))
    step_child u o k h ol e l = elim (child_cases t.edges u (step_symbol step)) [
      | inr g ↦ let gl : g.0 < length places = omega (arith, g.1, tr.edges_count) in (g.0, gl, g.2, (step_name u o k g.0 gl e g.3).1)
      | inl g ↦ absurd (
          let v = tr.step_at o (suc k) ol (omega arith) in
          g.1 v.0 (omega (arith, v.1, tr.edges_count)) (go v.0 v.1 v.2 (tr.node v.0 v.1)))
    ]
      where
        go : (v : ℕ) → v < length places → place_at places v ≡ place o (suc k) → NodeIs t rows places v → IsChild t.edges u (step_symbol step) v
        go v vl ve (top z n b) = absurd (omega (arith, ap (λ (x : Place). x.depth) (sym ve ∙ n)))
        go v vl ve (of_row j z jl n ul un s b) = absurd (omega (arith, ap (λ (x : Place). x.depth) (sym ve ∙ n)))
        go v vl ve (of_step o' k' ol' kl n ul un s b) =
            let q = sym ve ∙ n in
            let qo : o' ≡ o = sym (ap (λ (x : Place). x.row) q) in
            let qk : k' ≡ k = omega (arith, ap (λ (x : Place). x.depth) q) in
            let un' : place_at places (edge_of t.edges v).parent ≡ place o k = un ∙ cc in
            (omega (arith, ul), tr.once (edge_of t.edges v).parent u (omega (arith, ul, vl)) h (un' ∙ sym e), s)

    pub step_none : (u o k : ℕ) → u < length places → place_at places u ≡ place o k → steps_of step o rows ≤ k → child t.edges u (step_symbol step) ≡ None
    step_none u o k h e l = elim (child_cases t.edges u (step_symbol step)) [
      | inl g ↦ g.0
      | inr g ↦ absurd (let gl : g.0 < length places = omega (arith, g.1, tr.edges_count) in omega (arith, (step_name u o k g.0 gl e g.3).0))
    ]

    -- k steps down from the a-th step below row o
    pub down_steps : (k u o a : ℕ) → u < length places → o < length rows → place_at places u ≡ place o a → a ≤ steps_of step o rows
        → (v : ℕ) × (v < length places) × (down step t.edges k u ≡ record { node = v; missing = (a + k) - steps_of step o rows }) × (place_at places v ≡ place o (min (a + k) (steps_of step o rows)))
    unfolding down
    down_steps zero u o a h ol e l =
        let z : 0 ≡ (a + 0) - steps_of step o rows = omega arith in
        let w : a ≡ min (a + 0) (steps_of step o rows) = omega arith in
        (u, h, ap (λ (x : ℕ). record { node = u; missing = x }) z, e ∙ ap (λ (x : ℕ). place o x) w)
    down_steps (suc k) u o a h ol e l = elim (cases_lt a (steps_of step o rows)) [
      | inl b ↦
          let c = step_child u o a h ol e b in
          let r = down_steps k c.0 o (suc a) c.1 ol c.3 b in
          let z : suc a + k ≡ a + suc k = omega arith in
          (r.0, r.1, rw (c.2, down) (r.2 ∙ ap (λ (x : ℕ). record { node = r.0; missing = x - steps_of step o rows }) z), r.3 ∙ ap (λ (x : ℕ). place o (min x (steps_of step o rows))) z)
      | inr b ↦
          let c = step_none u o a h e b in
          let z : suc k ≡ (a + suc k) - steps_of step o rows = omega arith in
          let w : a ≡ min (a + suc k) (steps_of step o rows) = omega arith in
          (u, h, rw (c, down) (ap (λ (x : ℕ). record { node = u; missing = x }) z), e ∙ ap (λ (x : ℕ). place o x) w)
    ]

    -- the row of a child by a byte, from its parent's place
    row_name : (u o i b v : ℕ) → v < length places → b < 255 → place_at places u ≡ place o (i / size step) → IsChild t.edges u (branch_symbol step b i) v
        → (j : ℕ) × (0 < j) × (j < length rows) × (place_at places v ≡ place j 0) × (owner_row (row_at rows j) ≡ o) × ((row_at rows j).offset ≡ i) × (byte rows j ≡ b)
    row_name u o i b v h bl e c = go (tr.node v h)
      where
        go : NodeIs t rows places v → (j : ℕ) × (0 < j) × (j < length rows) × (place_at places v ≡ place j 0) × (owner_row (row_at rows j) ≡ o) × ((row_at rows j).offset ≡ i) × (byte rows j ≡ b)
        go (top z n l) = absurd (omega (arith, z, c.0))
        go (of_step o' k' ol kl n ul un s l) = absurd (omega (arith, s, c.2, branch_below step b i bl))
        go (of_row j z jl n ul un s l) =
            let q = sym un ∙ ap (λ (x : ℕ). place_at places x) c.1 ∙ e in
            let qk : (row_at rows j).offset / size step ≡ i / size step = ap (λ (x : Place). x.depth) q in
            let w : branch_symbol step (byte rows j) (row_at rows j).offset ≡ branch_symbol step b i = sym s ∙ c.2 in
            let same_word = branch_same step (byte rows j) b (row_at rows j).offset i w qk in
            (j, z, jl, n, ap (λ (x : Place). x.row) q, same_word.0, same_word.1)

    pub branch_cases : (u o i b : ℕ) → u < length places → b < 255 → place_at places u ≡ place o (i / size step)
        → ((child t.edges u (branch_symbol step b i) ≡ None) × ((j : ℕ) → 0 < j → j < length rows → owner_row (row_at rows j) ≡ o → (row_at rows j).offset ≡ i → byte rows j ≡ b → ⊥))
        ⊎ ((j : ℕ) × (0 < j) × (j < length rows) × (child t.edges u (branch_symbol step b i) ≡ Some (row_at rows j).ticket) × (owner_row (row_at rows j) ≡ o) × ((row_at rows j).offset ≡ i) × (byte rows j ≡ b))
    branch_cases u o i b h bl e = elim (child_cases t.edges u (branch_symbol step b i)) [
      | inr g ↦
          let gl : g.0 < length places = omega (arith, g.1, tr.edges_count) in
          let r = row_name u o i b g.0 gl bl e g.3 in
          let at_j = tr.row_at_lem r.0 r.2 in
          let same-node : g.0 ≡ (row_at rows r.0).ticket = tr.once g.0 (row_at rows r.0).ticket gl at_j.0 (r.3 ∙ sym at_j.1) in
          inr (r.0, r.1, r.2, g.2 ∙ ap Some same-node, r.4, r.5, r.6)
      | inl g ↦ inl (
        g.0,
        λ j z jl qo qi qb.
            let at_j = tr.row_at_lem j jl in
            g.1 (row_at rows j).ticket (omega (arith, at_j.0, tr.edges_count)) (go j z jl qo qi qb at_j.0 at_j.1 (tr.node (row_at rows j).ticket at_j.0)),
      )
    ]
      where
        go : (j : ℕ) → 0 < j → j < length rows → owner_row (row_at rows j) ≡ o → (row_at rows j).offset ≡ i → byte rows j ≡ b
            → (row_at rows j).ticket < length places → place_at places (row_at rows j).ticket ≡ place j 0 → NodeIs t rows places (row_at rows j).ticket → IsChild t.edges u (branch_symbol step b i) (row_at rows j).ticket
        go j z jl qo qi qb tl tn (top z' n l) = absurd (omega (arith, ap (λ (x : Place). x.row) (sym tn ∙ n)))
        go j z jl qo qi qb tl tn (of_step o' k' ol kl n ul un s l) = absurd (omega (arith, ap (λ (x : Place). x.depth) (sym tn ∙ n)))
        go j z jl qo qi qb tl tn (of_row j' z' jl' n ul un s l) =
            let q : j' ≡ j = ap (λ (x : Place). x.row) (sym n ∙ tn) in
            let un' : place_at places (edge_of t.edges (row_at rows j).ticket).parent ≡ place o (i / size step) = un ∙ (rw (q, qo, qi) refl) in
            let s' : (edge_of t.edges (row_at rows j).ticket).symbol ≡ branch_symbol step b i = s ∙ (rw (q, qi, qb) refl) in
            (omega (arith, ul), tr.once (edge_of t.edges (row_at rows j).ticket).parent u (omega (arith, ul, tl)) h (un' ∙ sym e), s')
