-- the tree and the rows of the same arrivals agree
use Rattle.std.proofs.Common.{◌≡◌, ℕ, ◌+◌, ◌-◌, ◌/◌, ◌<◌, ◌≤◌, min, false, List, [], ◌∷◌, length, drop, None, sym, refl, ap, ◌∙◌, subst, inl, inr, arith}
use Rattle.tags.specs.Tags.{spelled}
use Rattle.rules.specs.declared.step.Step.{Step}
use Rattle.rules.specs.Steps.{size}
use Rattle.rules.specs.Words.{shared, same_word}
use Rattle.rules.specs.Tree.{Tree, bare, node_count, child_from, child, down, there, look_for, moves_of, grow, enter_tag, tree_of, bytes_in}
use Rattle.rules.specs.Book.{Row, row_at, steps_of, nodes, label_bytes, owner_of, needs_of, rows_of}
use Rattle.rules.specs.Laws.{FoundAt, last_symbol, last_label, AbsentBelow, TicketOrStep, FindsNothing, Agree, arrived_tags, DescentMatchesBook}
use Rattle.rules.proofs.Steps.{branch_below, div_le}
use Rattle.rules.proofs.Bytes.{Bytes, bytes_of, byte_below}
use Rattle.rules.proofs.Shared.{shared_nil}
use Rattle.rules.proofs.Rows.{owner_in, Fresh, row_is, row_none, BookOk, same_row}
use Rattle.rules.proofs.Places.{Place, place, place_at, byte, NodeIs, top, of_row, of_step, TreeOk, down_steps}
use Rattle.rules.proofs.Looking.{none_turn}
use Rattle.rules.proofs.Descent.{Ends, found, absent, row_label, seeks}
use Rattle.rules.proofs.Entering.{enter_new_lem, grow_count, grow_labels}
use Rattle.rules.proofs.Grow.{labels_some}
use Rattle.rules.proofs.Together.{InStep, blank, both, in_step}
use Rattle.rules.proofs.Moves.{moves_few, absent_few}
use Rattle.rules.proofs.Climbing.{climbs}

-- looking in the tree without tags
module _ (step : Step) where
  no_child : (u c : ℕ) → child bare.edges u c ≡ None
  unfolding child_from
  no_child u c = refl

  no_steps : (k : ℕ) → k ≡ 0 → (down step bare.edges k 0).missing ≡ 0
  unfolding down
  no_steps k e = rw e refl

  spelled_some : (tag : List ℕ) → same_word (spelled tag) [] ≡ false
  unfolding spelled same_word
  spelled_some [] = refl
  spelled_some (b ∷ tag) = refl

  finds_nothing : (tag : List ℕ) → FindsNothing (look_for step bare tag)
  finds_nothing tag =
      let s : List ℕ = spelled tag in
      let z : shared s [] / size step ≡ 0 = omega (arith, shared_nil s, div_le step (shared s [])) in
      let l = none_turn step bare (length s) 0 s 0 (spelled_some tag) (no_steps (shared s [] / size step) z) (no_child _ _) in
      record {
        still = ap moves_of l ∙ omega (arith, z);
        nowhere = λ node moves e. (let q : ◌≡◌ {A = ℕ} 0 1 = cc in omega arith);
      }

module _ {V : Type 0} (step : Step) where
  bare_agrees : (tag : List ℕ) → Agree {V = V} step bare [] tag
  unfolding nodes bytes_in label_bytes
  bare_agrees tag = record {
    count = refl;
    bytes = refl;
    labelled = λ h. absurd (omega arith);
    kinds = λ h. absurd (omega arith);
    empty = λ h. finds_nothing step tag;
    found = λ j e. absurd (omega (arith, (row_is [] tag j e).0));
    absent = λ h. absurd (omega arith);
  }

  module _ (t : Tree) (rows : List (Row V)) (places : List Place) (tr : TreeOk step t rows places) (ok : BookOk step rows) (full : 0 < length rows) where
    kinds_of : (v : ℕ) → v < length places → TicketOrStep step t rows v
    kinds_of v h = go (tr.node v h)
      where
        ticket : (j : ℕ) → j < length rows → place_at places v ≡ place j 0 → (row_at rows j).ticket ≡ v
        ticket j jl n = let r = tr.row_at_lem j jl in tr.once (row_at rows j).ticket v r.0 h (r.1 ∙ sym n)

        go : NodeIs step t rows places v → TicketOrStep step t rows v
        go (top z n b) = inl ((0, full, ticket 0 full n), λ s. omega (arith, z, s.0))
        go (of_row j z jl n ul un s b) = inl (
          (j, jl, ticket j jl n),
          λ q. omega (
            arith,
            s,
            q.1,
            branch_below step (byte rows j) (row_at rows j).offset (byte_below (row_at rows j).tag (ok.bytes j jl) ((row_at rows j).start - 1)),
          ),
        )
        go (of_step o k ol kl n ul un s b) = inr (
          (omega (arith, ul), s),
          λ r.
              (let q : place_at places v ≡ place r.0 0 = ap (λ (x : ℕ). place_at places x) (sym r.2) ∙ (tr.row_at_lem r.0 r.1).1 in
              omega (arith, ap (λ (x : Place). x.depth) (sym q ∙ n))),
        )

    -- the node at a place is reached by steps from its row's ticket
    hangs_from : (o k u : ℕ) → o < length rows → k ≤ steps_of step o rows → u < length places → place_at places u ≡ place o k
        → down step t.edges k (row_at rows o).ticket ≡ record { node = u; missing = 0 }
    hangs_from o k u ol kl ul un =
        let r = tr.row_at_lem o ol in
        let d = down_steps step t rows places tr ok k (row_at rows o).ticket o 0 r.0 ol r.1 (omega arith) in
        let m : (0 + k) - steps_of step o rows ≡ 0 = omega arith in
        let n : min (0 + k) (steps_of step o rows) ≡ k = omega arith in
        let w : d.0 ≡ u = tr.once d.0 u d.1 ul (d.3 ∙ ap (λ (x : ℕ). place o x) n ∙ sym un) in
        d.2 ∙ cc

    module _ (tag : List ℕ) (by : Bytes tag) where
      found_at : (j : ℕ) → j < length rows → (row_at rows j).tag ≡ tag → Ends step rows places tag (look_for step t tag) → FoundAt step t rows tag j
      found_at j h e (absent u fr ul un le) = absurd (fr j h e)
      found_at j h e (found k kl ke le) =
          let w : k ≡ j = same_row step rows ok k j kl h (ke ∙ sym e) in
          record {
            inside = omega (arith, (tr.row_at_lem j h).0, tr.edges_count);
            ends = le ∙ ap (λ (i : ℕ). there (row_at rows i).ticket (row_at rows i).moves) w;
            few = subst (λ (x : List ℕ). (row_at rows j).moves ≤ length x + 1) e (moves_few step rows ok j h);
            label = row_label step t rows places tr ok j h ∙ ap (λ (x : List ℕ). drop (row_at rows j).start (spelled x)) e;
            climbs = climbs step t rows places tr ok j h ∙ ap (λ (x : List ℕ). spelled x) e;
          }

      absent_below : Fresh rows tag → Ends step rows places tag (look_for step t tag) → AbsentBelow step t rows tag
      absent_below fr (found k kl ke le) = absurd (fr k kl ke)
      absent_below fr (absent u fr' ul un le) =
          let k : ℕ = needs_of step rows tag - 1 in
          let c : ℕ = last_symbol step rows tag in
          let rest : List ℕ = last_label rows tag in
          let grows : enter_tag step t tag ≡ grow step t u k c rest = enter_new_lem step t.edges t.labels tag u k c rest _ (labels_some step t rows places tr ok full) le in
          record {
            node = u;
            hangs = hangs_from (owner_of rows tag) _ u (owner_in rows full tag) (omega arith) ul un;
            ends = le;
            few = absent_few step rows ok full tag by fr;
            grows = grows;
            made = ap (λ (q : Tree). node_count q.edges) grows ∙ grow_count step k t u c rest ∙ omega arith;
            labels = ap (λ (q : Tree). q.labels) grows ∙ grow_labels step k t u c rest;
          }

  pub agrees : (t : Tree) (rows : List (Row V)) → InStep step t rows → (tag : List ℕ) → Bytes tag → Agree step t rows tag
  agrees t rows (blank e f) tag by =
      subst (λ (z : Tree). Agree step z rows tag) (sym e) (subst (λ (z : List (Row V)). Agree step bare z tag) (sym f) (bare_agrees tag))
  agrees t rows (both full ok places tr bytes) tag by = record {
    count = tr.edges_count ∙ tr.total;
    bytes = bytes;
    labelled = λ h. tr.labels_count ∙ sym tr.edges_count;
    kinds = λ h v l. kinds_of t rows places tr ok full v (omega (arith, tr.edges_count));
    empty = λ h. absurd (omega arith);
    found = λ j e. (let r = row_is rows tag j e in found_at t rows places tr ok full tag by j r.0 r.1 (seeks step t rows places tr ok tag by full));
    absent = λ h e. absent_below t rows places tr ok full tag by (row_none rows tag e) (seeks step t rows places tr ok tag by full);
  }

pub descent_matches_book : {V : Type 0} → DescentMatchesBook V
descent_matches_book step arrivals all tag ok =
    agrees step (tree_of step (arrived_tags arrivals)) (rows_of step arrivals) (in_step step arrivals all) tag (bytes_of tag ok)
