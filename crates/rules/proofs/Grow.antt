-- entering a new tag keeps the tree in step with the book
use Rattle.std.proofs.Common.{◌≡◌, ℕ, zero, suc, ◌+◌, ◌-◌, ◌/◌, ◌<◌, ◌≤◌, min, max, true, false, ◌⊎◌, List, [], ◌∷◌, ◌++◌, length, get_or, drop, Option, sym, refl, ap, ◌∙◌, subst, inl, inr, arith, length-append}
use Rattle.std.proofs.lemmas.List.{get_or_append_left, get_or_push, length_push}
use Rattle.std.proofs.lemmas.Bool.{cases_eq, cases_lt, cases_Bool}
use Rattle.tags.specs.Tags.{spelled}
use Rattle.rules.specs.declared.step.Step.{Step}
use Rattle.rules.specs.Steps.{size, step_symbol, branch_symbol}
use Rattle.rules.specs.Tree.{Edge, Tree, node_count, edge_of, label_of, look_for, with_node, grow, enter_tag}
use Rattle.rules.specs.Book.{Row, row_at, word, most, owns, steps_of, nodes, owner_of, offset_of, needs_of, later_row}
use Rattle.rules.specs.Laws.{last_symbol, last_label}
use Rattle.rules.proofs.Bytes.{Bytes}
use Rattle.rules.proofs.Rows.{owner_row, owns_it, owns_not, Fresh, BookOk}
use Rattle.rules.proofs.Kept.{push, row_at_old, row_at_new, NewRow, later_new}
use Rattle.rules.proofs.Places.{Place, place, place_at, Once, byte, NodeIs, top, of_row, of_step, TreeOk}
use Rattle.rules.proofs.Descent.{Ends, found, absent, seeks}
use Rattle.rules.proofs.Entering.{enter_new_lem}

abbrev add : List Place → Place → List Place
add places z = places ++ (z ∷ [])

split : (places : List Place) (z : Place) (v : ℕ) → v < length (add places z) → (v < length places) ⊎ (length places ≡ v)
split places z v h = elim (cases_lt v (length places)) [
  | inl l ↦ inl l
  | inr g ↦ inr (omega (arith, length_push places z))
]

place_old : (places : List Place) (z : Place) (v : ℕ) → v < length places → place_at (add places z) v ≡ place_at places v
place_old places z v h = get_or_append_left places (z ∷ []) (place 0 0) v h

place_new : (places : List Place) (z : Place) → place_at (add places z) (length places) ≡ z
place_new places z = get_or_push places z (place 0 0) (length places) refl

abbrev Has : List Place → Place → Type 0
Has places p = (v : ℕ) × (v < length places) × (place_at places v ≡ p)

has_more : (places : List Place) (z p : Place) → Has places p → Has (add places z) p
has_more places z p r = (r.0, omega (arith, r.1, length_push places z), place_old places z r.0 r.1 ∙ r.2)

-- a place that no node had
once_more : (places : List Place) (z : Place) → Once places → ((v : ℕ) → v < length places → place_at places v ≡ z → ⊥) → Once (add places z)
once_more places z once new v w hv hw e = elim (split places z v hv) [
  | inl a ↦ elim (split places z w hw) [
    | inl b ↦ once v w a b (sym (place_old places z v a) ∙ e ∙ place_old places z w b)
    | inr b ↦ absurd (new v a (sym (place_old places z v a) ∙ e ∙ ap (λ (q : ℕ). place_at (add places z) q) (sym b) ∙ place_new places z))
  ]
  | inr a ↦ elim (split places z w hw) [
    | inl b ↦ absurd (new w b (sym (place_old places z w b) ∙ sym e ∙ ap (λ (q : ℕ). place_at (add places z) q) (sym a) ∙ place_new places z))
    | inr b ↦ sym a ∙ b
  ]
]

-- the edges of one node more
pub edge_old : (edges : List Edge) (e : Edge) (v : ℕ) → 0 < v → v < node_count edges → edge_of (edges ++ (e ∷ [])) v ≡ edge_of edges v
edge_old edges e v z h = get_or_append_left edges (e ∷ []) (record { parent = 0; symbol = 0 }) (v - 1) (omega arith)

pub edge_new : (edges : List Edge) (e : Edge) (v : ℕ) → node_count edges ≡ v → edge_of (edges ++ (e ∷ [])) v ≡ e
edge_new edges e v h = get_or_push edges e (record { parent = 0; symbol = 0 }) (v - 1) (omega arith)

module _ {V : Type 0} where
  nodes_push : (rows : List (Row V)) (y : Row V) → nodes (push rows y) ≡ nodes rows + y.needs
  unfolding nodes
  nodes_push [] y = omega arith
  nodes_push (r ∷ rs) y = omega (arith, nodes_push rs y)

module _ {V : Type 0} (step : Step) where
  -- steps over one row more
  steps_own : (rows : List (Row V)) (y : Row V) (o : ℕ) → owns o y ≡ true → steps_of step o (push rows y) ≡ max (steps_of step o rows) (y.offset / size step)
  unfolding steps_of
  steps_own [] y o e = rw (e, steps_of) (omega arith)
  steps_own (r ∷ rs) y o e =
      let h = steps_own rs y o e in
      elim (cases_Bool (owns o r)) [
        | inl f ↦ rw (f, steps_of) (omega arith)
        | inr n ↦ rw (n, steps_of) h
      ]

  steps_other : (rows : List (Row V)) (y : Row V) (o : ℕ) → owns o y ≡ false → steps_of step o (push rows y) ≡ steps_of step o rows
  unfolding steps_of
  steps_other [] y o e = rw (e, steps_of) refl
  steps_other (r ∷ rs) y o e =
      let h = steps_other rs y o e in
      elim (cases_Bool (owns o r)) [
        | inl f ↦ rw (f, steps_of) (omega arith)
        | inr n ↦ rw (n, steps_of) h
      ]

  steps_zero : (rows : List (Row V)) (o : ℕ) → ((j : ℕ) → j < length rows → owns o (row_at rows j) ≡ false) → steps_of step o rows ≡ 0
  unfolding steps_of
  steps_zero [] o f = refl
  steps_zero (r ∷ rs) o f = rw (f 0 (omega arith), steps_of) (steps_zero rs o (λ j h. f (suc j) (omega arith)))

  steps_grow : (rows : List (Row V)) (y : Row V) (o : ℕ) → steps_of step o rows ≤ steps_of step o (push rows y)
  steps_grow rows y o = elim (cases_Bool (owns o y)) [
    | inl e ↦ omega (arith, steps_own rows y o e)
    | inr n ↦ omega (arith, steps_other rows y o n)
  ]

  -- an old node is what it was, in a larger tree
  node_grow : (t : Tree) (R : List (Row V)) (places : List Place) (u c : ℕ) (l : List ℕ) (z : Place) → node_count t.edges ≡ length places → length t.labels ≡ length places
      → (v : ℕ) → v < length places → NodeIs step t R places v → NodeIs step (with_node t u c l) R (add places z) v
  node_grow t R places u c l z nc lc v h = go
    where
      en : 0 < v → edge_of (with_node t u c l).edges v ≡ edge_of t.edges v
      en y = edge_old t.edges (record { parent = u; symbol = c }) v y (omega arith)

      el : label_of (with_node t u c l) v ≡ label_of t v
      el = get_or_append_left t.labels (l ∷ []) [] v (omega arith)

      ez : place_at (add places z) v ≡ place_at places v
      ez = place_old places z v h

      go : NodeIs step t R places v → NodeIs step (with_node t u c l) R (add places z) v
      go (top e n b) = top e (ez ∙ n) (el ∙ b)
      go (of_row j a jl n ul un s b) = of_row j a jl (ez ∙ n)
          (rw (en (omega arith)) ul)
          (ap (λ (x : Edge). place_at (add places z) x.parent) (en (omega arith)) ∙ place_old places z (edge_of t.edges v).parent (omega arith) ∙ un)
          (ap (λ (x : Edge). x.symbol) (en (omega arith)) ∙ s) (el ∙ b)
      go (of_step o k ol kl n ul un s b) = of_step o k ol kl (ez ∙ n)
          (rw (en (omega arith)) ul)
          (ap (λ (x : Edge). place_at (add places z) x.parent) (en (omega arith)) ∙ place_old places z (edge_of t.edges v).parent (omega arith) ∙ un)
          (ap (λ (x : Edge). x.symbol) (en (omega arith)) ∙ s) (el ∙ b)

  -- and with one row more
  node_rows : (t : Tree) (rows : List (Row V)) (y : Row V) (places : List Place) (v : ℕ) → 0 < length rows → NodeIs step t rows places v → NodeIs step t (push rows y) places v
  node_rows t rows y places v full (top e n b) = top e n (b ∙ ap (λ (r : Row V). drop r.start (spelled r.tag)) (sym (row_at_old rows y 0 full)))
  node_rows t rows y places v full (of_row j a jl n ul un s b) =
      let e : row_at rows j ≡ row_at (push rows y) j = sym (row_at_old rows y j jl) in
      of_row j a (omega (arith, length_push rows y)) n ul
      (un ∙ ap (λ (r : Row V). place (owner_row r) (r.offset / size step)) e)
      (s ∙ ap (λ (r : Row V). branch_symbol step (get_or (spelled r.tag) (r.start - 1) 0) r.offset) e)
      (b ∙ ap (λ (r : Row V). drop r.start (spelled r.tag)) e)
  node_rows t rows y places v full (of_step o k ol kl n ul un s b) =
      of_step o k (omega (arith, length_push rows y)) (omega (arith, steps_grow rows y o)) n ul un s b

  -- while the nodes of the last row n, owned by o, are being made: o has its steps up to high
  record Growing (R : List (Row V)) (n o : ℕ) (t : Tree) (places : List Place) (high : ℕ) : Type 0 where
    edges_count : node_count t.edges ≡ length places
    labels_count : length t.labels ≡ length places
    node : (v : ℕ) → v < length places → NodeIs step t R places v
    old : (v : ℕ) → v < length places → (place_at places v).row < n
    low : (v : ℕ) → v < length places → (place_at places v).row ≡ o → (place_at places v).depth ≤ high
    row_at_lem : (j : ℕ) → j < n → ((row_at R j).ticket < length places) × (place_at places (row_at R j).ticket ≡ place j 0)
    step_at : (q k : ℕ) → q < n → k ≤ steps_of step q R → (q ≡ o → k ≤ high) → (v : ℕ) × (v < length places) × (place_at places v ≡ place q k)
    once : Once places

  module _ (R : List (Row V)) (n o : ℕ) (len : length R ≡ suc n) (owned : o < n) where
    add_step : (t : Tree) (places : List Place) (high u : ℕ) → Growing R n o t places high → u < length places → place_at places u ≡ place o high → high < steps_of step o R
        → Growing R n o (with_node t u (step_symbol step) []) (add places (place o (suc high))) (suc high)
    add_step t places high u m ul un hl = record {
      edges_count = simp length-append (omega (arith, m.edges_count));
      labels_count = simp length-append (omega (arith, m.labels_count));
      node = λ v h. elim (split places z v h) [
        | inl l ↦ node_grow t R places u (step_symbol step) [] z m.edges_count m.labels_count v l (m.node v l)
        | inr e ↦ subst (λ (q : ℕ). NodeIs step (with_node t u (step_symbol step) []) R (add places z) q) e fresh_node
      ];
      old = λ v h. elim (split places z v h) [
        | inl l ↦ rw (place_old places z v l) (m.old v l)
        | inr e ↦ subst (λ (q : ℕ). (place_at (add places z) q).row < n) e (rw (place_new places z) owned)
      ];
      low = λ v h. elim (split places z v h) [
        | inl l ↦ λ q. let q' : (place_at places v).row ≡ o = ap (λ (x : Place). x.row) (sym (place_old places z v l)) ∙ q in rw (place_old places z v l) (omega (arith, m.low v l q'))
        | inr e ↦ λ q. subst (λ (q : ℕ). (place_at (add places z) q).depth ≤ suc high) e (rw (place_new places z) (omega arith))
      ];
      row_at_lem = λ j h. let r = m.row_at_lem j h in (omega (arith, r.0, length_push places z), place_old places z (row_at R j).ticket r.0 ∙ r.1);
      step_at = λ q k ql kl f. elim (cases_eq q o) [
        | inr d ↦ has_more places z (place q k) (m.step_at q k ql kl (λ e. absurd (d e)))
        | inl e ↦ elim (cases_lt high k) [
          | inr b ↦ has_more places z (place q k) (m.step_at q k ql kl (λ _. b))
          | inl b ↦ let k' : suc high ≡ k = omega (arith, f e) in (length places, omega (arith, length_push places z), place_new places z ∙ (rw (k', e) refl))
        ]
      ];
      once = once_more places z m.once unlike;
    }
      where
        z : Place
        z = place o (suc high)

        fresh_node : NodeIs step (with_node t u (step_symbol step) []) R (add places z) (length places)
        fresh_node =
            let en : edge_of (with_node t u (step_symbol step) []).edges (length places) ≡ record { parent = u; symbol = (step_symbol step) } = edge_new t.edges (record { parent = u; symbol = (step_symbol step) }) (length places) m.edges_count in
            of_step o high (omega arith) hl (place_new places z)
            (rw en ul)
            (ap (λ (x : Edge). place_at (add places z) x.parent) en ∙ place_old places z u ul ∙ un)
            (ap (λ (x : Edge). x.symbol) en)
            (get_or_push t.labels [] [] (length places) m.labels_count)

        unlike : (v : ℕ) → v < length places → place_at places v ≡ z → ⊥
        unlike v h e = omega (arith, m.low v h (ap (λ (x : Place). x.row) e), ap (λ (x : Place). x.depth) e)

    finish : (t : Tree) (places : List Place) (high u c : ℕ) (rest : List ℕ) → Growing R n o t places high → steps_of step o R ≤ high → u < length places
        → place_at places u ≡ place (owner_row (row_at R n)) ((row_at R n).offset / size step) → c ≡ branch_symbol step (byte R n) (row_at R n).offset → rest ≡ drop (row_at R n).start (word R n)
        → (row_at R n).ticket ≡ length places → steps_of step n R ≡ 0 → length places + 1 ≡ nodes R
        → TreeOk step (with_node t u c rest) R (add places (place n 0))
    finish t places high u c rest m hh ul un ce re te sz tot = record {
      edges_count = simp length-append (omega (arith, m.edges_count));
      labels_count = simp length-append (omega (arith, m.labels_count));
      total = length_push places z ∙ tot;
      node = λ v h. elim (split places z v h) [
        | inl l ↦ node_grow t R places u c rest z m.edges_count m.labels_count v l (m.node v l)
        | inr e ↦ subst (λ (q : ℕ). NodeIs step (with_node t u c rest) R (add places z) q) e fresh_node
      ];
      row_at_lem = λ j h. elim (cases_lt j n) [
        | inl l ↦ let r = m.row_at_lem j l in (omega (arith, r.0, length_push places z), place_old places z (row_at R j).ticket r.0 ∙ r.1)
        | inr g ↦ let e : n ≡ j = omega arith in
            subst (λ (q : ℕ). ((row_at R q).ticket < length (add places z)) × (place_at (add places z) (row_at R q).ticket ≡ place q 0)) e
            (omega (arith, te, length_push places z), ap (λ (q : ℕ). place_at (add places z) q) te ∙ place_new places z)
      ];
      step_at = λ q k ql kl. elim (cases_lt q n) [
        | inl l ↦ has_more places z (place q k) (m.step_at q k l kl (λ e. let w : steps_of step q R ≤ high = subst (λ (r : ℕ). steps_of step r R ≤ high) (sym e) hh in omega arith))
        | inr g ↦ let e : n ≡ q = omega arith in
            let w : steps_of step q R ≡ 0 = subst (λ (r : ℕ). steps_of step r R ≡ 0) e sz in
            let k0 : 0 ≡ k = omega arith in
            (length places, omega (arith, length_push places z), place_new places z ∙ (rw (e, k0) refl))
      ];
      once = once_more places z m.once unlike;
    }
      where
        z : Place
        z = place n 0

        fresh_node : NodeIs step (with_node t u c rest) R (add places z) (length places)
        fresh_node =
            let en : edge_of (with_node t u c rest).edges (length places) ≡ record { parent = u; symbol = c } = edge_new t.edges (record { parent = u; symbol = c }) (length places) m.edges_count in
            of_row n (omega arith) (omega arith) (place_new places z)
            (rw en ul)
            (ap (λ (x : Edge). place_at (add places z) x.parent) en ∙ place_old places z u ul ∙ un)
            (ap (λ (x : Edge). x.symbol) en ∙ ce)
            (get_or_push t.labels rest [] (length places) m.labels_count ∙ re)

        unlike : (v : ℕ) → v < length places → place_at places v ≡ z → ⊥
        unlike v h e = omega (arith, m.old v h, ap (λ (x : Place). x.row) e)

    grows : (k : ℕ) (t : Tree) (places : List Place) (high u c : ℕ) (rest : List ℕ) → Growing R n o t places high → u < length places → place_at places u ≡ place o high
        → high + k ≡ steps_of step o R → high + k ≡ (row_at R n).offset / size step → owner_row (row_at R n) ≡ o → c ≡ branch_symbol step (byte R n) (row_at R n).offset → rest ≡ drop (row_at R n).start (word R n)
        → (row_at R n).ticket ≡ length places + k → steps_of step n R ≡ 0 → length places + k + 1 ≡ nodes R
        → (places' : List Place) × TreeOk step (grow step t u k c rest) R places'
    unfolding grow
    grows zero t places high u c rest m ul un e1 e2 eo ce re te sz tot =
        let eh : high ≡ (row_at R n).offset / size step = omega arith in (
          add places (place n 0),
          finish t places high u c rest m (omega arith) ul (un ∙ (rw (eo, eh) refl)) ce re (omega arith) sz (omega arith),
        )
    grows (suc k) t places high u c rest m ul un e1 e2 eo ce re te sz tot =
        let z : Place = place o (suc high) in
        grows k (with_node t u (step_symbol step) []) (add places z) (suc high) (node_count t.edges) c rest
        (add_step t places high u m ul un (omega arith))
        (omega (arith, m.edges_count, length_push places z))
        (ap (λ (q : ℕ). place_at (add places z) q) m.edges_count ∙ place_new places z)
        (omega arith) (omega arith) eo ce re (omega (arith, length_push places z)) sz (omega (arith, length_push places z))

  grow_none : (t : Tree) (u c : ℕ) (rest : List ℕ) (R : List (Row V)) (places : List Place) → TreeOk step (with_node t u c rest) R places → TreeOk step (grow step t u 0 c rest) R places
  unfolding grow
  grow_none t u c rest R places h = h

  module _ (t : Tree) (rows : List (Row V)) (places : List Place) (tr : TreeOk step t rows places) (ok : BookOk step rows) (full : 0 < length rows) where
    -- before the first node of a new row is made
    growing_first : (y : Row V) → NewRow step rows y → Growing (push rows y) (length rows) (owner_row y) t places (steps_of step (owner_row y) rows)
    growing_first y new = record {
      edges_count = tr.edges_count;
      labels_count = tr.labels_count;
      node = λ v h. node_rows t rows y places v full (tr.node v h);
      old = λ v h. go_old v (tr.node v h);
      low = λ v h. go_low v (tr.node v h);
      row_at_lem = λ j h. rw (row_at_old rows y j h) (tr.row_at_lem j h);
      step_at = λ q k ql kl f. tr.step_at q k ql (elim (cases_eq (owner_row y) q) [
        | inl e ↦ subst (λ (r : ℕ). k ≤ steps_of step r rows) e (f (sym e))
        | inr d ↦ omega (arith, steps_other rows y q (owns_not y q d))
      ]);
      once = tr.once;
    }
      where
        go_old : (v : ℕ) → NodeIs step t rows places v → (place_at places v).row < length rows
        go_old v (top e n b) = rw n full
        go_old v (of_row j a jl n ul un s b) = rw n jl
        go_old v (of_step o k ol kl n ul un s b) = rw n ol

        go_low : (v : ℕ) → NodeIs step t rows places v → (place_at places v).row ≡ owner_row y → (place_at places v).depth ≤ steps_of step (owner_row y) rows
        go_low v (top e n b) q = rw n (omega arith)
        go_low v (of_row j a jl n ul un s b) q = rw n (omega arith)
        go_low v (of_step o k ol kl n ul un s b) q =
            let e : o ≡ owner_row y = ap (λ (r : Place). r.row) (sym n) ∙ q in
            let w : k < steps_of step (owner_row y) rows = subst (λ (r : ℕ). k < steps_of step r rows) e kl in
            rw n w

    no_steps : (y : Row V) → NewRow step rows y → steps_of step (length rows) (push rows y) ≡ 0
    no_steps y new = steps_zero (push rows y) (length rows) (λ j h. owns_not (row_at (push rows y) j) (length rows) (λ e. elim (cases_lt j (length rows)) [
      | inr g ↦ let q : length rows ≡ j = omega (arith, length_push rows y) in
          let w : owner_row (row_at (push rows y) j) < length rows = subst (λ (r : ℕ). owner_row (row_at (push rows y) r) < length rows) q (rw (row_at_new rows y) new.before) in
          omega arith
      | inl l ↦ let w : owner_row (row_at rows j) ≡ length rows = rw (row_at_old rows y j l) at e in
          elim (cases_eq j 0) [
            | inl z ↦ let v : owner_row (row_at rows 0) ≡ length rows = subst (λ (r : ℕ). owner_row (row_at rows r) ≡ length rows) z w in let b0 : owner_row (row_at rows 0) ≡ 0 = rw (ok.owner_0, owner_row) refl in omega (arith, b0)
            | inr d ↦ omega (arith, (ok.row j (omega arith) l).before)
          ]
    ]))

    pub labels_some : 0 < length t.labels
    labels_some = omega (arith, tr.labels_count, (tr.row_at_lem 0 full).0)

    -- the nodes that a new tag needs, below the node where it is missing
    grow_keeps : (tag : List ℕ) (value : Option V) → NewRow step rows (later_row step rows tag value)
        → (u : ℕ) → u < length places → place_at places u ≡ place (owner_of rows tag) (min (offset_of rows tag / size step) (steps_of step (owner_of rows tag) rows))
        → (places' : List Place) × TreeOk step (grow step t u (needs_of step rows tag - 1) (last_symbol step rows tag) (last_label rows tag)) (push rows (later_row step rows tag value)) places'
    unfolding later_row
    grow_keeps tag value new u ul un =
        let y : Row V = later_row step rows tag value in
        let R : List (Row V) = push rows y in
        let n : ℕ = length rows in
        let o : ℕ = owner_of rows tag in
        let c : ℕ = last_symbol step rows tag in
        let rest : List ℕ = last_label rows tag in
        let last : row_at R n ≡ y = row_at_new rows y in
        let growing = growing_first y new in
        let so : steps_of step o R ≡ max (steps_of step o rows) (offset_of rows tag / size step) = steps_own rows y o (owns_it y o new.owned refl) in
        let sz : steps_of step n R ≡ 0 = no_steps y new in
        let np : nodes R ≡ nodes rows + needs_of step rows tag = nodes_push rows y in
        let total : length places ≡ nodes rows = tr.total in
        let own : owner_row (row_at R n) ≡ o = ap (λ (r : Row V). owner_row r) last in
        let at_start : most (spelled tag) rows ≡ most (spelled tag) rows + 1 - 1 = omega arith in
        let ce : c ≡ branch_symbol step (byte R n) (row_at R n).offset =
        ap (λ (q : ℕ). branch_symbol step (get_or (spelled tag) q 0) (offset_of rows tag)) at_start
        ∙ ap (λ (r : Row V). branch_symbol step (get_or (spelled r.tag) (r.start - 1) 0) r.offset) (sym last) in
        let re : rest ≡ drop (row_at R n).start (word R n) = ap (λ (r : Row V). drop r.start (spelled r.tag)) (sym last) in
        let te : (row_at R n).ticket ≡ nodes rows + needs_of step rows tag - 1 = ap (λ (r : Row V). r.ticket) last in
        let oe : (row_at R n).offset / size step ≡ offset_of rows tag / size step = ap (λ (r : Row V). r.offset / size step) last in
        elim (cases_lt (steps_of step o rows) (offset_of rows tag / size step)) [
          | inl more ↦
              let un' : place_at places u ≡ place o (steps_of step o rows) = un ∙ ap (λ (q : ℕ). place o q) (omega arith) in
              grows R n o (length_push rows y ∙ omega arith) new.before (needs_of step rows tag - 1) t places (steps_of step o rows) u c rest growing ul un'
              (omega arith) (omega arith) own ce re (omega arith) sz (omega arith)
          | inr enough ↦
              let k0 : needs_of step rows tag - 1 ≡ 0 = omega arith in
              let un' : place_at places u ≡ place (owner_row (row_at R n)) ((row_at R n).offset / size step) =
              un ∙ ap (λ (q : ℕ). place o q) (omega arith) ∙ ap (λ (r : Row V). place (owner_row r) (r.offset / size step)) (sym last) in (
                add places (place n 0),
                subst (λ (q : ℕ). TreeOk step (grow step t u q c rest) R (add places (place n 0))) (sym k0)
                    (grow_none t u c rest R (add places (place n 0))
                    (finish R n o (length_push rows y ∙ omega arith) new.before t places (steps_of step o rows) u c rest growing (omega arith) ul un' ce re (omega arith) sz (omega arith))),
              )
        ]

    pub enter_keeps : (tag : List ℕ) (value : Option V) → Bytes tag → Fresh rows tag
        → (places' : List Place) × TreeOk step (enter_tag step t tag) (push rows (later_row step rows tag value)) places'
    enter_keeps tag value by fr = go (seeks step t rows places tr ok tag by full)
      where
        go : Ends step rows places tag (look_for step t tag) → (places' : List Place) × TreeOk step (enter_tag step t tag) (push rows (later_row step rows tag value)) places'
        go (found k kl e l) = absurd (fr k kl e)
        go (absent u fr' ul un le) =
            subst (λ (q : Tree). (places' : List Place) × TreeOk step q (push rows (later_row step rows tag value)) places')
            (sym (enter_new_lem step t.edges t.labels tag u _ _ _ _ labels_some le))
            (grow_keeps tag value (later_new step rows ok full tag value by fr) u ul un)
