-- the tree and the rows of the same arrivals, side by side
use Rattle.std.proofs.Common.{◌≡◌, ℕ, ◌+◌, ◌-◌, ◌<◌, ◌≤◌, List, [], ◌∷◌, ◌++◌, length, Option, sym, refl, ap, ◌∙◌, subst, inl, inr, arith, length-append, length-drop}
use Rattle.tags.specs.Tags.{spelled}
use Rattle.rules.specs.declared.step.Step.{Step}
use Rattle.rules.specs.Tree.{Tree, bare, look_for, enter_tag, enter_tags, tree_of, bytes_in}
use Rattle.rules.specs.Book.{Row, first_row, row_at, most, steps_of, nodes, row_bytes, label_bytes, needs_of, later_row, next_row, Arrival, arrive, arrive_all, rows_of}
use Rattle.rules.specs.Laws.{AllWellFormed, last_symbol, last_label, arrived_tags}
use Rattle.rules.proofs.Bytes.{Bytes, bytes_of}
use Rattle.rules.proofs.Rows.{Fresh, row_of_cases, BookOk}
use Rattle.rules.proofs.Kept.{push, first_ok, book_more}
use Rattle.rules.proofs.Places.{Place, place, place_at, NodeIs, top, TreeOk}
use Rattle.rules.proofs.Descent.{Ends, found, absent, seeks}
use Rattle.rules.proofs.Entering.{enter_new_lem, enter_again, grow_bytes}
use Rattle.rules.proofs.Grow.{labels_some, enter_keeps}

module _ {V : Type 0} where
  pub label_bytes_push : (rows : List (Row V)) (y : Row V) → label_bytes (push rows y) ≡ label_bytes rows + row_bytes y
  unfolding label_bytes
  label_bytes_push [] y = omega arith
  label_bytes_push (r ∷ rs) y = omega (arith, label_bytes_push rs y)

module _ (step : Step) where
  -- the tree with a tag entered last
  enter_last : (tags : List (List ℕ)) (tag : List ℕ) (t : Tree) → enter_tags step t (tags ++ (tag ∷ [])) ≡ enter_tag step (enter_tags step t tags) tag
  unfolding enter_tags
  enter_last [] tag t = refl
  enter_last (x ∷ tags) tag t = enter_last tags tag (enter_tag step t x)

  pub tree_last : (tags : List (List ℕ)) (tag : List ℕ) → tree_of step (tags ++ (tag ∷ [])) ≡ enter_tag step (tree_of step tags) tag
  unfolding tree_of
  tree_last tags tag = enter_last tags tag bare

module _ {V : Type 0} (step : Step) where
  -- the tree is that of the rows
  pub data InStep (t : Tree) (rows : List (Row V)) : Type 0 where
    blank : t ≡ bare → rows ≡ [] → InStep t rows
    both : 0 < length rows → BookOk step rows → (places : List Place) → TreeOk step t rows places → bytes_in t.labels ≡ label_bytes rows → InStep t rows

  first_tree : (tag : List ℕ) (value : Option V) → TreeOk step (enter_tag step bare tag) (first_row tag value ∷ []) (place 0 0 ∷ [])
  unfolding enter_tag steps_of nodes
  first_tree tag value = record {
    edges_count = refl;
    labels_count = refl;
    total = refl;
    node = λ v h. let e : 0 ≡ v = omega arith in subst (λ (q : ℕ). NodeIs step (enter_tag step bare tag) (first_row tag value ∷ []) (place 0 0 ∷ []) q) e (top refl refl refl);
    row_at_lem = λ j h. let e : 0 ≡ j = omega arith in
        subst (λ (q : ℕ). ((row_at (first_row tag value ∷ []) q).ticket < 1) × (place_at (place 0 0 ∷ []) (row_at (first_row tag value ∷ []) q).ticket ≡ place q 0)) e (omega arith, refl);
    step_at = λ o k ol kl.
        let e : 0 ≡ o = omega arith in
        let w : k ≤ steps_of step 0 (first_row tag value ∷ []) = subst (λ (q : ℕ). k ≤ steps_of step q (first_row tag value ∷ [])) (sym e) kl in
        let z : 0 ≡ k = omega arith in
        (0, omega arith, rw (← e, ← z) refl);
    once = λ v w hv hw e. omega arith;
  }

  first_both : (tag : List ℕ) (value : Option V) → Bytes tag → InStep (enter_tag step bare tag) (push [] (next_row step [] tag value))
  unfolding next_row enter_tag bytes_in label_bytes
  first_both tag value by = both (omega arith) (first_ok step tag value by) (place 0 0 ∷ []) (first_tree tag value) (omega arith)

  pub next_later : (rows : List (Row V)) (tag : List ℕ) (value : Option V) → 0 < length rows → next_row step rows tag value ≡ later_row step rows tag value
  unfolding next_row
  next_later [] tag value h = absurd (omega arith)
  next_later (r ∷ rs) tag value h = refl

  later_bytes : (rows : List (Row V)) (tag : List ℕ) (value : Option V) → row_bytes (later_row step rows tag value) ≡ length (last_label rows tag)
  unfolding later_row
  later_bytes rows tag value = sym (length-drop (most (spelled tag) rows + 1) (spelled tag))

  enter_bytes : (t : Tree) (rows : List (Row V)) (places : List Place) → TreeOk step t rows places → BookOk step rows → 0 < length rows
      → bytes_in t.labels ≡ label_bytes rows → (tag : List ℕ) (value : Option V) → Bytes tag → Fresh rows tag
      → bytes_in (enter_tag step t tag).labels ≡ label_bytes (push rows (later_row step rows tag value))
  enter_bytes t rows places tr ok full q tag value by fr = go (seeks step t rows places tr ok tag by full)
    where
      go : Ends step rows places tag (look_for step t tag) → bytes_in (enter_tag step t tag).labels ≡ label_bytes (push rows (later_row step rows tag value))
      go (found k kl e l) = absurd (fr k kl e)
      go (absent u fr' ul un le) =
          ap (λ (w : Tree). bytes_in w.labels) (enter_new_lem step t.edges t.labels tag u _ _ _ _ (labels_some step t rows places tr ok full) le)
          ∙ omega (
            arith,
            grow_bytes step (needs_of step rows tag - 1) t u (last_symbol step rows tag) (last_label rows tag),
            label_bytes_push rows (later_row step rows tag value),
            later_bytes rows tag value,
          )

  -- a new tag entered in both
  pub new_keeps : (t : Tree) (rows : List (Row V)) → InStep t rows → (tag : List ℕ) (value : Option V) → Bytes tag → Fresh rows tag
      → InStep (enter_tag step t tag) (push rows (next_row step rows tag value))
  new_keeps t rows (blank e f) tag value by fr =
      subst (λ (q : Tree). InStep (enter_tag step q tag) (push rows (next_row step rows tag value))) (sym e)
      (subst (λ (q : List (Row V)). InStep (enter_tag step bare tag) (push q (next_row step q tag value))) (sym f) (first_both tag value by))
  new_keeps t rows (both full ok places tr bytes) tag value by fr =
      let k = enter_keeps step t rows places tr ok full tag value by fr in
      subst (λ (r : Row V). InStep (enter_tag step t tag) (push rows r)) (sym (next_later rows tag value full))
      (both (simp length-append (omega arith)) (book_more step rows ok full tag value by fr) k.0 k.1 (enter_bytes t rows places tr ok full bytes tag value by fr))

  -- entering a tag that stands already changes neither
  pub again_keeps : (t : Tree) (rows : List (Row V)) → InStep t rows → (tag : List ℕ) → Bytes tag → (j : ℕ) → j < length rows → (row_at rows j).tag ≡ tag → enter_tag step t tag ≡ t
  again_keeps t rows (blank e f) tag by j h q = absurd (omega (arith, ap (λ (r : List (Row V)). length r) f))
  again_keeps t rows (both full ok places tr bytes) tag by j h q = go (seeks step t rows places tr ok tag by full)
    where
      go : Ends step rows places tag (look_for step t tag) → enter_tag step t tag ≡ t
      go (found k kl e l) = enter_again step t.edges t.labels tag _ _ (labels_some step t rows places tr ok full) l
      go (absent u fr ul un l) = absurd (fr j h q)

  arrive_keeps : (t : Tree) (rows : List (Row V)) → InStep t rows → (a : Arrival V) → Bytes a.tag → InStep (enter_tag step t a.tag) (arrive step rows a)
  unfolding arrive
  arrive_keeps t rows st a by = elim (row_of_cases rows a.tag) [
    | inl c ↦ rw (c.0, arrive) (new_keeps t rows st a.tag a.value by c.1)
    | inr c ↦ rw (c.1, arrive) (rw (again_keeps t rows st a.tag by c.0 c.2 c.3) st)
  ]

  all_keep : (arrivals : List (Arrival V)) → AllWellFormed (arrived_tags arrivals) → (t : Tree) (rows : List (Row V)) → InStep t rows
      → InStep (enter_tags step t (arrived_tags arrivals)) (arrive_all step rows arrivals)
  unfolding enter_tags arrive_all
  all_keep [] all t rows st = st
  all_keep (a ∷ more) all t rows st = all_keep more all.1 (enter_tag step t a.tag) (arrive step rows a) (arrive_keeps t rows st a (bytes_of a.tag all.0))

  -- the tree of the tags that arrive is that of their rows
  pub in_step : (arrivals : List (Arrival V)) → AllWellFormed (arrived_tags arrivals) → InStep (tree_of step (arrived_tags arrivals)) (rows_of step arrivals)
  unfolding tree_of rows_of
  in_step arrivals all = all_keep arrivals all bare [] (blank refl refl)
