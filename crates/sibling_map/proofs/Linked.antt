-- a node more among the records
use Rattle.std.proofs.Common.{◌≡◌, ℕ, zero, suc, ◌+◌, ◌<◌, ◌≤◌, List, [], ◌∷◌, ◌++◌, length, set, Some, None, Option, sym, refl, ap, ◌∙◌, subst, inl, inr, arith, length-append, length-set, get_or-set_other, get_or-set_same}
use Rattle.std.proofs.lemmas.List.FromFn.{map-range_with_len_more}
use Rattle.std.proofs.lemmas.Bool.{cases_eq}
use Rattle.rules.specs.Tree.{Edge, edge_of}
use Rattle.parts.proofs.Children.{edge_old, edge_new}
use Rattle.sibling_map.specs.declared.record.NodeRecord.{NodeRecord}
use Rattle.sibling_map.specs.Records.{newest, parent_of, record_of, laid_out, blank, at, edge_in, edges_in, Laid}
use Rattle.sibling_map.proofs.Newest.{newest_here, newest_past, newest_same, newest_none, first_is}
use Rattle.sibling_map.proofs.Read.{length_edges, map_same, laid_at, laid_out_lem}

abbrev pub with_first : NodeRecord → Option ℕ → NodeRecord
with_first r o = record { parent = r.parent; symbol = r.symbol; first = o; next = r.next }

-- the record of a new child of u by the symbol c, in front of the older ones
abbrev pub entry : List NodeRecord → ℕ → ℕ → NodeRecord
entry rs u c = record { parent = u; symbol = c; first = None; next = (at rs u).first }

-- the records with node v written as the newest child of u by the symbol c
abbrev pub linked : List NodeRecord → ℕ → ℕ → ℕ → List NodeRecord
linked rs v u c = set (set rs v (entry rs u c)) u (with_first (at (set rs v (entry rs u c)) u) (Some v))

-- the records of a tree with the edge (u, c) more, its new node n + 1
module _ (es : List Edge) (n u c : ℕ) (many : length es ≡ n) (low : u ≤ n) where
  abbrev grown : List Edge
  grown = es ++ (record { parent = u; symbol = c } ∷ [])

  count_grown : length grown ≡ suc n
  count_grown = omega (arith, length-append es (record { parent = u; symbol = c } ∷ []))

  old_edge : (w : ℕ) → 0 < w → w ≤ n → edge_of grown w ≡ edge_of es w
  old_edge w a b = edge_old es (record { parent = u; symbol = c }) w a (omega arith)

  new_edge : edge_of grown (suc n) ≡ record { parent = u; symbol = c }
  new_edge = edge_new es (record { parent = u; symbol = c }) (suc n) (omega arith)

  newest_old : (k w : ℕ) → k ≤ n → newest (parent_of grown) k w ≡ newest (parent_of es) k w
  newest_old k w h = newest_same (parent_of grown) (parent_of es) k w (λ x a b. ap (λ (e : Edge). e.parent) (old_edge x a (omega arith)))

  -- an older node keeps all but its first child
  record_old : (w : ℕ) → w ≤ n → record_of grown w ≡ with_first (record_of es w) (newest (parent_of grown) (length grown) w)
  record_old zero h = refl
  record_old (suc w) h =
      let e : edge_of grown (suc w) ≡ edge_of es (suc w) = old_edge (suc w) (omega arith) h in
      ap (λ (x : Edge). record { parent = x.parent; symbol = x.symbol; first = newest (parent_of grown) (length grown) (suc w); next = newest (parent_of grown) w x.parent }) e
      ∙ ap (λ (o : Option ℕ). record { parent = (edge_of es (suc w)).parent; symbol = (edge_of es (suc w)).symbol; first = newest (parent_of grown) (length grown) (suc w); next = o })
      (newest_old w (parent_of es (suc w)) (omega arith))

  newest_grown : (w : ℕ) → newest (parent_of grown) (length grown) w ≡ newest (parent_of grown) (suc n) w
  newest_grown w = ap (λ (k : ℕ). newest (parent_of grown) k w) count_grown

  record_above : record_of grown u ≡ with_first (record_of es u) (Some (n + 1))
  record_above =
      let j : suc n ≡ n + 1 = omega arith in
      record_old u low
      ∙ ap (with_first (record_of es u)) (newest_grown u ∙ newest_here (parent_of grown) n u (ap (λ (e : Edge). e.parent) new_edge) ∙ ap Some j)

  first_kept : (w : ℕ) → record_of es w ≡ with_first (record_of es w) (newest (parent_of es) n w)
  first_kept w = ap (with_first (record_of es w)) (first_is es w ∙ ap (λ (k : ℕ). newest (parent_of es) k w) many)

  record_other : (w : ℕ) → w ≤ n → (w ≡ u → ⊥) → record_of grown w ≡ record_of es w
  record_other w h d = record_old w h
      ∙ ap (with_first (record_of es w))
      (newest_grown w ∙ newest_past (parent_of grown) n w (λ q. d (sym q ∙ ap (λ (e : Edge). e.parent) new_edge)) ∙ newest_old n w (omega arith))
      ∙ sym (first_kept w)

  -- no node has the newest one as its parent
  record_new_lem : ((w : ℕ) → 0 < w → w ≤ n + 1 → (edge_of grown w).parent < w)
      → record_of grown (n + 1) ≡ record { parent = u; symbol = c; first = None; next = newest (parent_of es) n u }
  record_new_lem parents =
      let j : suc n ≡ n + 1 = omega arith in
      subst (λ (x : ℕ). record_of grown x ≡ record { parent = u; symbol = c; first = None; next = newest (parent_of es) n u }) j
      (ap (λ (x : Edge). record { parent = x.parent; symbol = x.symbol; first = newest (parent_of grown) (length grown) (suc n); next = newest (parent_of grown) n x.parent }) new_edge
      ∙ ap (λ (o : Option ℕ). record { parent = u; symbol = c; first = o; next = newest (parent_of grown) n u })
      (newest_grown (suc n) ∙ newest_none (parent_of grown) (suc n) (suc n) (λ w a b q. let l : w ≤ n + 1 = omega arith in omega (arith, parents w a l)))
      ∙ ap (λ (o : Option ℕ). record { parent = u; symbol = c; first = None; next = o }) (newest_old n u (omega arith)))

-- the same in a list of records, of which those of the nodes 0 to n are in use
module _ (rs : List NodeRecord) (n u c : ℕ) (low : u ≤ n) (room : n + 1 < length rs) where
  abbrev then : List NodeRecord
  then = linked rs (n + 1) u c

  at_new : at then (n + 1) ≡ entry rs u c
  at_new = get_or-set_other (set rs (n + 1) (entry rs u c)) u (n + 1) _ blank (λ e. omega arith) ∙ get_or-set_same rs (n + 1) (entry rs u c) blank room

  at_above : at then u ≡ with_first (at rs u) (Some (n + 1))
  at_above = get_or-set_same (set rs (n + 1) (entry rs u c)) u _ blank (simp length-set (omega arith))
      ∙ ap (λ (r : NodeRecord). with_first r (Some (n + 1))) (get_or-set_other rs (n + 1) u (entry rs u c) blank (λ e. omega arith))

  at_other : (w : ℕ) → (w ≡ n + 1 → ⊥) → (w ≡ u → ⊥) → at then w ≡ at rs w
  at_other w h k = get_or-set_other (set rs (n + 1) (entry rs u c)) u w _ blank k ∙ get_or-set_other rs (n + 1) w (entry rs u c) blank h

  edge_same : (w : ℕ) → w ≤ n → edge_in then w ≡ edge_in rs w
  edge_same w h = elim (cases_eq w u) [
    | inl e ↦ subst (λ (x : ℕ). edge_in then x ≡ edge_in rs x) (sym e) (ap (λ (r : NodeRecord). record { parent = r.parent; symbol = r.symbol }) at_above)
    | inr d ↦ ap (λ (r : NodeRecord). record { parent = r.parent; symbol = r.symbol }) (at_other w (λ e. omega arith) d)
  ]

  pub edges_linked : edges_in (linked rs (n + 1) u c) (n + 1) ≡ edges_in rs n ++ (record { parent = u; symbol = c } ∷ [])
  edges_linked =
      let j : 1 + n ≡ n + 1 = omega arith in
      let e : edges_in then (n + 1) ≡ edges_in then n ++ (edge_in then (n + 1) ∷ []) = map-range_with_len_more (edge_in then) 1 n (n + 1) j in
      let f : edges_in then n ≡ edges_in rs n = map_same (edge_in then) (edge_in rs) 1 n (λ w a b. edge_same w (omega arith)) in
      let g : edge_in then (n + 1) ≡ record { parent = u; symbol = c } = ap (λ (r : NodeRecord). record { parent = r.parent; symbol = r.symbol }) at_new in
      cc

  module _ (top : ℕ) (laid : Laid top rs n) (used : 0 < top)
      (parents : (w : ℕ) → 0 < w → w ≤ n + 1 → (edge_of (edges_in rs n ++ (record { parent = u; symbol = c } ∷ [])) w).parent < w) where
    -- each node has its record
    pub at_linked : (w : ℕ) → w ≤ n + 1 → at (linked rs (n + 1) u c) w ≡ record_of (edges_in rs n ++ (record { parent = u; symbol = c } ∷ [])) w
    at_linked w h = elim (cases_eq w (n + 1)) [
      | inl e ↦ subst (λ (x : ℕ). at then x ≡ record_of (edges_in rs n ++ (record { parent = u; symbol = c } ∷ [])) x) (sym e)
          (at_new
          ∙ ap (λ (o : Option ℕ). record { parent = u; symbol = c; first = None; next = o })
          (ap (λ (r : NodeRecord). r.first) (laid_at top rs n u laid used low) ∙ first_is (edges_in rs n) u
          ∙ ap (λ (k : ℕ). newest (parent_of (edges_in rs n)) k u) (length_edges rs n))
          ∙ sym (record_new_lem (edges_in rs n) n u c (length_edges rs n) low parents))
      | inr d ↦ elim (cases_eq w u) [
        | inl e ↦ subst (λ (x : ℕ). at then x ≡ record_of (edges_in rs n ++ (record { parent = u; symbol = c } ∷ [])) x) (sym e)
            (at_above
            ∙ ap (λ (r : NodeRecord). with_first r (Some (n + 1))) (laid_at top rs n u laid used low)
            ∙ sym (record_above (edges_in rs n) n u c (length_edges rs n) low))
        | inr f ↦ at_other w d f ∙ laid_at top rs n w laid used (omega arith)
            ∙ sym (record_other (edges_in rs n) n u c (length_edges rs n) low w (omega arith) f)
      ]
    ]

    pub laid_linked : linked rs (n + 1) u c ≡ laid_out (edges_in rs n ++ (record { parent = u; symbol = c } ∷ [])) rs
    laid_linked =
        let k : length (edges_in rs n ++ (record { parent = u; symbol = c } ∷ [])) ≡ n + 1 =
        omega (arith, length-append (edges_in rs n) (record { parent = u; symbol = c } ∷ []), length_edges rs n) in
        let l : length (linked rs (n + 1) u c) ≡ length rs = simp length-set in
        laid_out_lem (edges_in rs n ++ (record { parent = u; symbol = c } ∷ [])) rs (linked rs (n + 1) u c) l (omega arith)
        (λ w h. at_linked w (omega arith)) (λ w h. at_other w (λ e. omega arith) (λ e. omega arith))

-- a record past those in use may be any
module _ (rs : List NodeRecord) (n v : ℕ) (r : NodeRecord) (past : n < v) where
  pub at_beyond : (w : ℕ) → w ≤ n → at (set rs v r) w ≡ at rs w
  at_beyond w h = get_or-set_other rs v w r blank (λ e. omega arith)

  pub edges_beyond : edges_in (set rs v r) n ≡ edges_in rs n
  edges_beyond =
      map_same (edge_in (set rs v r)) (edge_in rs) 1 n
      (λ w a b. ap (λ (x : NodeRecord). record { parent = x.parent; symbol = x.symbol }) (at_beyond w (omega arith)))
