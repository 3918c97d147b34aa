-- one turn of looking, from what is met there
use Rattle.std.proofs.Common.{◌≡◌, ℕ, suc, ◌+◌, ◌-◌, ◌/◌, ◌<◌, ◌≤◌, min, ◌⊎◌, List, length, get_or, drop, Some, None, sym, refl, ap, ◌∙◌, inl, inr, arith}
use Rattle.tags.specs.Tags.{spelled}
use Rattle.rules.specs.declared.step.Step.{Step}
use Rattle.rules.specs.Steps.{size, branch_symbol}
use Rattle.rules.specs.Words.{shared}
use Rattle.rules.specs.Tree.{Tree, label_of, child, Down, down, Look, there, lacks, look_for}
use Rattle.rules.specs.Book.{Row, row_at, word, steps_of, needs_of, absent_moves}
use Rattle.rules.specs.Laws.{last_symbol, last_label}
use Rattle.rules.proofs.Bytes.{Bytes, byte_below}
use Rattle.rules.proofs.Shared.{spelled_whole}
use Rattle.rules.proofs.Rows.{owner_row, BookOk, same_row}
use Rattle.rules.proofs.Places.{Place, place, place_at, byte, TreeOk, branch_cases}
use Rattle.rules.proofs.Looking.{reach}
use Rattle.rules.proofs.Descent.{Ends, found, absent, parting, behind, left, meets, byte_at, rest_at, steps_down, no_more, no_deeper, stops, goes, seeks}
use Rattle.rules.proofs.Together.{InStep, blank, both}

module _ {V : Type 0} where
  -- looking has come to a row's node, with the bytes of the tag from `from` on left, after so many moves
  pub record On (rows : List (Row V)) (tag : List ℕ) (node from moves : ℕ) : Type 0 where
    pub row : ℕ
    pub in_rows : row < length rows
    pub held : (row_at rows row).start ≤ shared (spelled tag) (word rows row)
    pub node_is : node ≡ (row_at rows row).ticket
    pub from_is : from ≡ (row_at rows row).start
    pub moves_is : moves ≡ (row_at rows row).moves

module _ {V : Type 0} (step : Step) where
  -- a tree and its rows, where a tag was entered
  pub record Full (t : Tree) (rows : List (Row V)) : Type 0 where
    pub full : 0 < length rows
    pub ok : BookOk step rows
    pub places : List Place
    pub tr : TreeOk step t rows places

  pub not_blank : (t : Tree) (rows : List (Row V)) → InStep step t rows → 0 < length t.labels → Full t rows
  not_blank t rows (blank e f) h = absurd (omega (arith, ap (λ (q : Tree). length q.labels) e))
  not_blank t rows (both full ok places tr bytes) h = record { full = full; ok = ok; places = places; tr = tr }

  module _ (t : Tree) (rows : List (Row V)) (places : List Place) (tr : TreeOk step t rows places) (ok : BookOk step rows) (full : 0 < length rows) (tag : List ℕ) (by : Bytes tag) where
    unique : (l k : Look) → Ends step rows places tag l → Ends step rows places tag k → l ≡ k
    unique l k (found a al ae le) (found b bl be ke) =
        let e : a ≡ b = same_row step rows ok a b al bl (ae ∙ sym be) in
        le ∙ ap (λ (j : ℕ). there (row_at rows j).ticket (row_at rows j).moves) e ∙ sym ke
    unique l k (found a al ae le) (absent u fr ul un ke) = absurd (fr a al ae)
    unique l k (absent u fr ul un le) (found a al ae ke) = absurd (fr a al ae)
    unique l k (absent u fr ul un le) (absent v fr' vl vn ke) =
        let e : u ≡ v = tr.once u v ul vl (un ∙ sym vn) in
        le ∙ ap (λ (w : ℕ). lacks w (needs_of step rows tag - 1) (last_symbol step rows tag) (last_label rows tag) (absent_moves step rows tag)) e ∙ sym ke

    is_look : (l : Look) → Ends step rows places tag l → l ≡ look_for step t tag
    is_look l e = unique l (look_for step t tag) e (seeks step t rows places tr ok tag by full)

    pub on_first : On rows tag 0 0 0
    on_first = record {
      row = 0;
      in_rows = full;
      held = omega (arith, ok.start_0);
      node_is = sym ok.ticket_0;
      from_is = sym ok.start_0;
      moves_is = sym ok.moves_0;
    }

    module _ (node from moves m : ℕ) (o : On rows tag node from moves) (met : m ≡ shared (drop from (spelled tag)) (label_of t node)) where
      abbrev P : ℕ
      P = parting step t rows places tr ok tag by o.row o.in_rows o.held

      abbrev I : ℕ
      I = behind step t rows places tr ok tag by o.row o.in_rows o.held

      abbrev S : List ℕ
      S = left step t rows places tr ok tag by o.row o.in_rows o.held

      m_is : m ≡ I
      m_is = met ∙ (rw (o.node_is, o.from_is) (meets step t rows places tr ok tag by o.row o.in_rows o.held))

      at_parting : from + m ≡ P
      at_parting = omega (arith, m_is, o.from_is, o.held)

      byte_is : get_or (spelled tag) (from + m) 0 ≡ get_or S I 0
      byte_is = ap (λ (z : ℕ). get_or (spelled tag) z 0) at_parting ∙ sym (byte_at step t rows places tr ok tag by o.row o.in_rows o.held)

      rest_is : drop (from + m + 1) (spelled tag) ≡ drop (suc I) S
      rest_is = let e : from + m + 1 ≡ suc P = omega (arith, at_parting) in
          ap (λ (z : ℕ). drop z (spelled tag)) e ∙ sym (rest_at step t rows places tr ok tag by o.row o.in_rows o.held)

      -- all that is left is met: this is the tag's own node
      pub at_there : length (spelled tag) ≤ from + m → there node moves ≡ look_for step t tag
      at_there h =
          let e : tag ≡ (row_at rows o.row).tag = spelled_whole tag (row_at rows o.row).tag by (ok.bytes o.row o.in_rows) (omega (arith, at_parting)) in
          is_look (there node moves) (found o.row o.in_rows (sym e) (rw (o.node_is, o.moves_is) refl))

      module _ (short : from + m < length (spelled tag)) (v k : ℕ) (d : down step t.edges (m / size step) node ≡ record { node = v; missing = k }) where
        abbrev pub symbol : ℕ
        symbol = branch_symbol step (get_or (spelled tag) (from + m) 0) m

        short' : P < length (spelled tag)
        short' = omega (arith, at_parting)

        deep : (w : ℕ) × (w < length places) × (reach step t (row_at rows o.row).ticket I ≡ record { node = w; missing = I / size step - steps_of step o.row rows })
            × (place_at places w ≡ place o.row (min (I / size step) (steps_of step o.row rows)))
        deep = steps_down step t rows places tr ok tag by o.row o.in_rows o.held

        d_is : ◌≡◌ {A = Down} (record { node = v; missing = k }) (record { node = deep.0; missing = I / size step - steps_of step o.row rows })
        d_is = sym d ∙ ap (λ (z : ℕ). down step t.edges (z / size step) node) m_is ∙ ap (λ (z : ℕ). down step t.edges (I / size step) z) o.node_is ∙ deep.2

        v_is : v ≡ deep.0
        v_is = ap (λ (q : Down). q.node) d_is

        k_is : k ≡ I / size step - steps_of step o.row rows
        k_is = ap (λ (q : Down). q.missing) d_is

        v_below : v < length places
        v_below = rw v_is deep.1

        v_place : place_at places v ≡ place o.row (min (I / size step) (steps_of step o.row rows))
        v_place = rw v_is deep.3

        m_div : m / size step ≡ I / size step
        m_div = ap (λ (z : ℕ). z / size step) m_is

        ends_at : ((q : ℕ) → q < length rows → shared (spelled tag) (word rows q) ≤ P)
            → lacks v k symbol (drop (from + m + 1) (spelled tag)) (moves + (m / size step - k)) ≡ look_for step t tag
        ends_at f =
            let e-symbol : symbol ≡ branch_symbol step (get_or S I 0) I = rw (byte_is, m_is) refl in
            is_look _ (stops step t rows places tr ok tag by o.row o.in_rows o.held short' f v (moves + (m / size step - k)) v_below v_place
            (omega (arith, k_is, m_div, o.moves_is)) _ (let r = rest_is in let q = k_is in cc))

        -- step children are missing
        pub at_short : 0 < k → lacks v k symbol (drop (from + m + 1) (spelled tag)) (moves + (m / size step - k)) ≡ look_for step t tag
        at_short more = ends_at (no_deeper step t rows places tr ok tag by o.row o.in_rows o.held (omega (arith, k_is)))

        module _ (none-missing : k ≡ 0) where
          v_at : place_at places v ≡ place o.row (I / size step)
          v_at = v_place ∙ ap (λ (q : ℕ). place o.row q) (omega (arith, k_is))

          abbrev symbol' : ℕ
          symbol' = branch_symbol step (get_or (spelled tag) P 0) I

          symbol_is : symbol ≡ symbol'
          symbol_is = rw (at_parting, m_is) refl

          cases : ((child t.edges v symbol' ≡ None) × ((q : ℕ) → 0 < q → q < length rows → owner_row (row_at rows q) ≡ o.row → (row_at rows q).offset ≡ I → byte rows q ≡ get_or (spelled tag) P 0 → ⊥))
              ⊎ ((q : ℕ) × (0 < q) × (q < length rows) × (child t.edges v symbol' ≡ Some (row_at rows q).ticket) × (owner_row (row_at rows q) ≡ o.row) × ((row_at rows q).offset ≡ I) × (byte rows q ≡ get_or (spelled tag) P 0))
          cases = branch_cases step t rows places tr ok v o.row I (get_or (spelled tag) P 0) v_below (byte_below tag by P) v_at

          -- the last child is missing
          pub at_none : child t.edges v symbol ≡ None → lacks v k symbol (drop (from + m + 1) (spelled tag)) (moves + (m / size step - k)) ≡ look_for step t tag
          at_none n = elim cases [
            | inl c ↦ ends_at (no_more step t rows places tr ok tag by o.row o.in_rows o.held c.1)
            | inr c ↦ absurd (let e : Some (row_at rows c.0).ticket ≡ None = sym c.3 ∙ ap (λ (z : ℕ). child t.edges v z) (sym symbol_is) ∙ n in
                let z : ◌≡◌ {A = ℕ} 0 1 = cc in omega arith)
          ]

          -- looking goes on at the next row's node
          pub at_next : (w : ℕ) → child t.edges v symbol ≡ Some w → On rows tag w (from + m + 1) (moves + m / size step + 1)
          at_next w n = elim cases [
            | inl c ↦ absurd (let e : Some w ≡ None = sym n ∙ ap (λ (z : ℕ). child t.edges v z) symbol_is ∙ c.0 in let z : ◌≡◌ {A = ℕ} 0 1 = cc in omega arith)
            | inr c ↦
                let e : Some w ≡ Some (row_at rows c.0).ticket = sym n ∙ ap (λ (z : ℕ). child t.edges v z) symbol_is ∙ c.3 in
                let g = goes step t rows places tr ok tag by o.row o.in_rows o.held short' c.0 c.1 c.2 c.4 c.5 c.6 in
                record {
                  row = c.0;
                  in_rows = c.2;
                  held = g.0;
                  node_is = cc;
                  from_is = omega (arith, g.1, at_parting);
                  moves_is = omega (arith, g.2, m_div, o.moves_is);
                }
          ]
