-- looking in the tree ends where the book says
use Rattle.std.proofs.Common.{◌≡◌, ℕ, zero, suc, pred, ◌+◌, ◌-◌, ◌/◌, ◌<◌, ◌≤◌, min, true, false, List, [], ◌∷◌, length, get_or, drop, Some, None, sym, refl, ap, ◌∙◌, subst, inl, inr, arith, length-drop}
use Rattle.std.proofs.lemmas.List.{drop-drop, get_or-drop}
use Rattle.std.proofs.lemmas.Bool.{cases_lt, cases_Bool, both_ways}
use Rattle.tags.specs.Tags.{spelled}
use Rattle.rules.specs.declared.step.Step.{Step}
use Rattle.rules.specs.Steps.{size, branch_symbol}
use Rattle.rules.specs.Words.{shared, same_word}
use Rattle.rules.specs.Tree.{Tree, label_of, child, Look, there, lacks, look_from, look_for}
use Rattle.rules.specs.Book.{Row, row_at, word, most, steps_of, owner_of, offset_of, needs_of, absent_moves}
use Rattle.rules.specs.Laws.{last_symbol, last_label}
use Rattle.rules.proofs.Bytes.{Bytes, byte_below}
use Rattle.rules.proofs.Shared.{shared_length, shared_read, shared_drop, spelled_whole, same_word_is, same_word_self, shared_self}
use Rattle.rules.proofs.Rows.{owner_row, owns_it, first_over, Fresh, BookOk, passes, owner_is, shares_more}
use Rattle.rules.proofs.Places.{Place, place, place_at, byte, NodeIs, top, of_row, of_step, TreeOk, steps_bound, down_steps, branch_cases}
use Rattle.rules.proofs.Looking.{meet, reach, look_there, look_short, look_none, look_next}

module _ {V : Type 0} (step : Step) where
  pub absent_is : (rows : List (Row V)) (tag : List ℕ) → 0 < length rows
      → absent_moves step rows tag ≡ (row_at rows (owner_of rows tag)).moves + min (offset_of rows tag / size step) (steps_of step (owner_of rows tag) rows)
  unfolding absent_moves
  absent_is [] tag h = absurd (omega arith)
  absent_is (r ∷ rs) tag h = refl

  -- how looking for a tag ends, by the book
  pub data Ends (rows : List (Row V)) (places : List Place) (tag : List ℕ) (l : Look) : Type 0 where
    found : (k : ℕ) → k < length rows → (row_at rows k).tag ≡ tag → l ≡ there (row_at rows k).ticket (row_at rows k).moves → Ends rows places tag l
    absent : (u : ℕ) → Fresh rows tag → u < length places
        → place_at places u ≡ place (owner_of rows tag) (min (offset_of rows tag / size step) (steps_of step (owner_of rows tag) rows))
        → l ≡ lacks u (needs_of step rows tag - 1) (last_symbol step rows tag) (last_label rows tag) (absent_moves step rows tag)
        → Ends rows places tag l

  module _ (t : Tree) (rows : List (Row V)) (places : List Place) (tr : TreeOk step t rows places) (ok : BookOk step rows) where
    pub row_label : (j : ℕ) → j < length rows → label_of t (row_at rows j).ticket ≡ drop (row_at rows j).start (word rows j)
    row_label j h = go (tr.node (row_at rows j).ticket (tr.row_at_lem j h).0)
      where
        go : NodeIs step t rows places (row_at rows j).ticket → label_of t (row_at rows j).ticket ≡ drop (row_at rows j).start (word rows j)
        go (top z n l) = let e : 0 ≡ j = ap (λ (q : Place). q.row) (sym n ∙ (tr.row_at_lem j h).1) in l ∙ ap (λ (q : ℕ). drop (row_at rows q).start (word rows q)) e
        go (of_row k z kl n ul un s l) = let e : k ≡ j = ap (λ (q : Place). q.row) (sym n ∙ (tr.row_at_lem j h).1) in l ∙ ap (λ (q : ℕ). drop (row_at rows q).start (word rows q)) e
        go (of_step o k ol kl n ul un s l) = absurd (omega (arith, ap (λ (q : Place). q.depth) (sym n ∙ (tr.row_at_lem j h).1)))

    module _ (tag : List ℕ) (by : Bytes tag) where
      -- a label is all that is left of the tag only in the tag's own row
      own_row : (j : ℕ) → j < length rows → (row_at rows j).start ≤ shared (spelled tag) (word rows j) → same_word (drop (row_at rows j).start (spelled tag)) (label_of t (row_at rows j).ticket) ≡ true → (row_at rows j).tag ≡ tag
      own_row j h held e =
          let s : List ℕ = spelled tag in
          let a : ℕ = (row_at rows j).start in
          let q : drop a s ≡ drop a (word rows j) = same_word_is (drop a s) (label_of t (row_at rows j).ticket) e ∙ row_label j h in
          let w : shared (drop a s) (drop a (word rows j)) ≡ length (drop a s) = ap (λ (z : List ℕ). shared (drop a s) z) (sym q) ∙ shared_self (drop a s) in
          sym (spelled_whole tag (row_at rows j).tag by (ok.bytes j h)
          (omega (arith, w, shared_drop s (word rows j) a held, length-drop a s, held, shared_length s (word rows j))))

      not_own : (j : ℕ) → j < length rows → (row_at rows j).start ≤ shared (spelled tag) (word rows j) → same_word (drop (row_at rows j).start (spelled tag)) (label_of t (row_at rows j).ticket) ≡ false
          → shared (spelled tag) (word rows j) < length (spelled tag)
      not_own j h held e = elim (cases_lt (shared (spelled tag) (word rows j)) (length (spelled tag))) [
        | inl l ↦ l
        | inr g ↦ absurd (
            let q : tag ≡ (row_at rows j).tag = spelled_whole tag (row_at rows j).tag by (ok.bytes j h) g in
            let w : drop (row_at rows j).start (spelled tag) ≡ label_of t (row_at rows j).ticket = ap (λ (z : List ℕ). drop (row_at rows j).start (spelled z)) q ∙ sym (row_label j h) in
            both_ways (same_word (drop (row_at rows j).start (spelled tag)) (label_of t (row_at rows j).ticket)) e
            (subst (λ (z : List ℕ). same_word (drop (row_at rows j).start (spelled tag)) z ≡ true) w (same_word_self (drop (row_at rows j).start (spelled tag)))))
      ]

      module _ (j : ℕ) (h : j < length rows) (held : (row_at rows j).start ≤ shared (spelled tag) (word rows j)) where
        -- where the tag and the holder part, from the beginning and from the holder's start; and what is left of the tag there
        abbrev pub parting : ℕ
        parting = shared (spelled tag) (word rows j)

        abbrev pub behind : ℕ
        behind = parting - (row_at rows j).start

        abbrev pub left : List ℕ
        left = drop (row_at rows j).start (spelled tag)

        pub meets : meet t (row_at rows j).ticket left ≡ behind
        meets = ap (λ (z : List ℕ). shared left z) (row_label j h) ∙ shared_drop (spelled tag) (word rows j) (row_at rows j).start held

        pub byte_at : get_or left behind 0 ≡ get_or (spelled tag) parting 0
        byte_at = let e : (row_at rows j).start + behind ≡ parting = omega arith in get_or-drop (row_at rows j).start (spelled tag) behind 0 ∙ ap (λ (z : ℕ). get_or (spelled tag) z 0) e

        pub rest_at : drop (suc behind) left ≡ drop (suc parting) (spelled tag)
        rest_at = let e : (row_at rows j).start + suc behind ≡ suc parting = omega arith in drop-drop (suc behind) (row_at rows j).start (spelled tag) ∙ ap (λ (z : ℕ). drop z (spelled tag)) e

        pub steps_down : (v : ℕ) × (v < length places) × (reach step t (row_at rows j).ticket behind ≡ record { node = v; missing = behind / size step - steps_of step j rows })
            × (place_at places v ≡ place j (min (behind / size step) (steps_of step j rows)))
        steps_down =
            let d = down_steps step t rows places tr ok (behind / size step) (row_at rows j).ticket j 0 (tr.row_at_lem j h).0 h (tr.row_at_lem j h).1 (omega arith) in
            let e : 0 + behind / size step ≡ behind / size step = omega arith in
            (d.0, d.1, d.2 ∙ ap (λ (z : ℕ). record { node = d.0; missing = z - steps_of step j rows }) e, d.3 ∙ ap (λ (z : ℕ). place j (min z (steps_of step j rows))) e)

        -- where a row shares more, the first such row is right below the holder
        below : (k : ℕ) × (k < length rows) × (parting < shared (spelled tag) (word rows k)) × ((m : ℕ) → m < k → shared (spelled tag) (word rows m) ≤ parting)
            → (k : ℕ) × (0 < k) × (k < length rows) × (owner_row (row_at rows k) ≡ j) × ((row_at rows k).offset ≡ behind) × (byte rows k ≡ get_or (spelled tag) parting 0)
        below k =
            let pk = passes step rows ok (spelled tag) j h held k.0 k.1 k.2 k.3 in
            let rk = ok.row k.0 (omega (arith, pk.0)) k.1 in
            let st : suc ((row_at rows j).start + (row_at rows k.0).offset) ≡ (row_at rows k.0).start = subst (λ (z : ℕ). suc ((row_at rows z).start + (row_at rows k.0).offset) ≡ (row_at rows k.0).start) pk.1 rk.starts in
            let e : (row_at rows k.0).start - 1 ≡ parting = omega (arith, pk.2) in
            (k.0, omega (arith, pk.0), k.1, pk.1, omega (arith, st, pk.2), ap (λ (z : ℕ). get_or (word rows k.0) z 0) e ∙ sym (shared_read (spelled tag) (word rows k.0) parting k.2))

        pub no_more : ((k : ℕ) → 0 < k → k < length rows → owner_row (row_at rows k) ≡ j → (row_at rows k).offset ≡ behind → byte rows k ≡ get_or (spelled tag) parting 0 → ⊥)
            → (k : ℕ) → k < length rows → shared (spelled tag) (word rows k) ≤ parting
        no_more g = elim (first_over (spelled tag) rows parting (length rows)) [
          | inl f ↦ f
          | inr k ↦ absurd (let b = below k in g b.0 b.1 b.2 b.3 b.4 b.5)
        ]

        -- where steps are missing no row shares more
        pub no_deeper : steps_of step j rows < behind / size step → (k : ℕ) → k < length rows → shared (spelled tag) (word rows k) ≤ parting
        no_deeper more = no_more (λ k z kl o f b.
            (let w : behind / size step ≤ steps_of step j rows =
            subst (λ (q : ℕ). q / size step ≤ steps_of step j rows) f (steps_bound step rows j k kl (owns_it (row_at rows k) j (ok.row k z kl).owned o)) in
            omega arith))

        pub stops : parting < length (spelled tag) → ((k : ℕ) → k < length rows → shared (spelled tag) (word rows k) ≤ parting)
            → (v m : ℕ) → v < length places → place_at places v ≡ place j (min (behind / size step) (steps_of step j rows)) → m ≡ (row_at rows j).moves + min (behind / size step) (steps_of step j rows)
            → (l : Look) → l ≡ lacks v (behind / size step - steps_of step j rows) (branch_symbol step (get_or left behind 0) behind) (drop (suc behind) left) m → Ends rows places tag l
        stops short f v m vl vn me l le =
            let ow = owner_is step rows ok (spelled tag) j h held f in
            let own : owner_of rows tag ≡ j = ow.1 in
            let off : offset_of rows tag ≡ behind = rw (ow.1, ow.0) refl in
            let fresh : Fresh rows tag = λ k kl e.
            (let z = f k kl in
            let w : shared (spelled tag) (word rows k) ≡ length (spelled tag) = ap (λ (q : List ℕ). shared (spelled tag) (spelled q)) e ∙ shared_self (spelled tag) in
            omega arith) in
            let e-place : place j (min (behind / size step) (steps_of step j rows)) ≡ place (owner_of rows tag) (min (offset_of rows tag / size step) (steps_of step (owner_of rows tag) rows)) = rw (off, own) refl in
            let e-needs : behind / size step - steps_of step j rows ≡ needs_of step rows tag - 1 = rw (off, own) (omega arith) in
            let e-symbol : branch_symbol step (get_or left behind 0) behind ≡ last_symbol step rows tag = rw (off, ow.0, byte_at) refl in
            let e-start : suc parting ≡ most (spelled tag) rows + 1 = omega (arith, ow.0) in
            let e-label : drop (suc behind) left ≡ last_label rows tag = rest_at ∙ ap (λ (z : ℕ). drop z (spelled tag)) e-start in
            let e-moves : m ≡ absent_moves step rows tag = me ∙ sym (absent_is rows tag (omega arith) ∙ rw (off, own) refl) in
            absent v fresh vl (vn ∙ e-place) (le ∙ cc)

        -- a child is the row that shares more
        pub goes : parting < length (spelled tag) → (k : ℕ) → 0 < k → k < length rows → owner_row (row_at rows k) ≡ j → (row_at rows k).offset ≡ behind → byte rows k ≡ get_or (spelled tag) parting 0
            → ((row_at rows k).start ≤ shared (spelled tag) (word rows k)) × ((row_at rows k).start ≡ suc parting) × ((row_at rows k).moves ≡ (row_at rows j).moves + behind / size step + 1)
        goes short k z kl o f b =
            let rk = ok.row k z kl in
            let st : suc ((row_at rows j).start + (row_at rows k).offset) ≡ (row_at rows k).start = subst (λ (q : ℕ). suc ((row_at rows q).start + (row_at rows k).offset) ≡ (row_at rows k).start) o rk.starts in
            let mv : (row_at rows k).moves ≡ (row_at rows j).moves + 1 + (row_at rows k).offset / size step = subst (λ (q : ℕ). (row_at rows k).moves ≡ (row_at rows q).moves + 1 + (row_at rows k).offset / size step) o rk.counts in
            let mv' : (row_at rows k).moves ≡ (row_at rows j).moves + 1 + behind / size step = subst (λ (q : ℕ). (row_at rows k).moves ≡ (row_at rows j).moves + 1 + q / size step) f mv in
            let e : (row_at rows k).start - 1 ≡ parting = omega arith in
            let b' : get_or (word rows k) parting 0 ≡ get_or (spelled tag) parting 0 = subst (λ (q : ℕ). get_or (word rows k) q 0 ≡ get_or (spelled tag) parting 0) e b in
            let m = shares_more step rows ok (spelled tag) j h held k z kl o (omega arith) short b' in
            (omega arith, omega arith, omega arith)

      descends : (fuel j : ℕ) → j < length rows → (row_at rows j).start ≤ shared (spelled tag) (word rows j) → length (spelled tag) < (row_at rows j).start + fuel
          → Ends rows places tag (look_from step t fuel (row_at rows j).ticket (drop (row_at rows j).start (spelled tag)) (row_at rows j).moves)
      descends zero j h held enough = absurd (omega (arith, shared_length (spelled tag) (word rows j)))
      descends (suc fuel) j h held enough = elim (cases_Bool (same_word (left j h held) (label_of t (row_at rows j).ticket))) [
        | inl y ↦ found j h (own_row j h held y) (look_there step t fuel (row_at rows j).ticket (left j h held) (row_at rows j).moves y)
        | inr n ↦
            let short = not_own j h held n in
            let d = steps_down j h held in
            elim (cases_lt (steps_of step j rows) (behind j h held / size step)) [
              | inl more ↦
                  let k : ℕ = pred (behind j h held / size step - steps_of step j rows) in
                  let ek : behind j h held / size step - steps_of step j rows ≡ suc k = omega arith in
                  stops j h held short (no_deeper j h held more) d.0 ((row_at rows j).moves + (behind j h held / size step - suc k)) d.1 d.3 (omega arith)
                  (look_from step t (suc fuel) (row_at rows j).ticket (left j h held) (row_at rows j).moves)
                  (look_short step t fuel (row_at rows j).ticket (left j h held) (row_at rows j).moves (behind j h held) d.0 k (meets j h held) n (d.2 ∙ ap (λ (z : ℕ). record { node = d.0; missing = z }) ek)
                  ∙ ap (λ (z : ℕ). lacks d.0 z (branch_symbol step (get_or (left j h held) (behind j h held) 0) (behind j h held)) (drop (suc (behind j h held)) (left j h held)) ((row_at rows j).moves + (behind j h held / size step - suc k))) (sym ek))
              | inr all ↦
                  let el : behind j h held / size step - steps_of step j rows ≡ 0 = omega arith in
                  let em : min (behind j h held / size step) (steps_of step j rows) ≡ behind j h held / size step = omega arith in
                  let d0 : reach step t (row_at rows j).ticket (behind j h held) ≡ record { node = d.0; missing = 0 } = d.2 ∙ ap (λ (z : ℕ). record { node = d.0; missing = z }) el in
                  elim (branch_cases step t rows places tr ok d.0 j (behind j h held) (get_or (spelled tag) (parting j h held) 0) d.1 (byte_below tag by (parting j h held)) (d.3 ∙ ap (λ (z : ℕ). place j z) em)) [
                    | inl c ↦
                        let c' : child t.edges d.0 (branch_symbol step (get_or (left j h held) (behind j h held) 0) (behind j h held)) ≡ None = rw (byte_at j h held) c.0 in
                        stops j h held short (no_more j h held c.1) d.0 ((row_at rows j).moves + behind j h held / size step) d.1 d.3 (omega arith)
                        (look_from step t (suc fuel) (row_at rows j).ticket (left j h held) (row_at rows j).moves)
                        (look_none step t fuel (row_at rows j).ticket (left j h held) (row_at rows j).moves (behind j h held) d.0 (meets j h held) n d0 c'
                        ∙ ap (λ (z : ℕ). lacks d.0 z (branch_symbol step (get_or (left j h held) (behind j h held) 0) (behind j h held)) (drop (suc (behind j h held)) (left j h held)) ((row_at rows j).moves + behind j h held / size step)) (sym el))
                    | inr c ↦
                        let c' : child t.edges d.0 (branch_symbol step (get_or (left j h held) (behind j h held) 0) (behind j h held)) ≡ Some (row_at rows c.0).ticket = rw (byte_at j h held) c.3 in
                        let g = goes j h held short c.0 c.1 c.2 c.4 c.5 c.6 in
                        let r : drop (suc (behind j h held)) (left j h held) ≡ drop (row_at rows c.0).start (spelled tag) = rest_at j h held ∙ ap (λ (z : ℕ). drop z (spelled tag)) (sym g.1) in
                        let e : look_from step t (suc fuel) (row_at rows j).ticket (left j h held) (row_at rows j).moves ≡ look_from step t fuel (row_at rows c.0).ticket (drop (row_at rows c.0).start (spelled tag)) (row_at rows c.0).moves
                        = look_next step t fuel (row_at rows j).ticket (left j h held) (row_at rows j).moves (behind j h held) d.0 (row_at rows c.0).ticket (meets j h held) n d0 c'
                        ∙ (rw (r, g.2) refl) in
                        subst (λ (l : Look). Ends rows places tag l) (sym e) (descends fuel c.0 c.2 g.0 (omega (arith, g.1, enough, held, c.2)))
                  ]
            ]
      ]

      -- looking for the tag from node 0
      pub seeks : 0 < length rows → Ends rows places tag (look_for step t tag)
      seeks full =
          let l = descends (suc (length (spelled tag))) 0 full (omega (arith, ok.start_0)) (omega arith) in
          subst (λ (l : Look). Ends rows places tag l) (rw (ok.ticket_0, ok.start_0, ok.moves_0) refl) l
