-- what a shown book tells of map, store and shelf
use Rattle.std.proofs.Common.{◌≡◌, ℕ, ◌<◌, ◌≤◌, List, [], ◌∷◌, length, get_or, Some, None, Option, sym, ap, ◌∙◌, subst, inl, inr, arith}
use Rattle.tags.specs.Tags.{WellFormed}
use Rattle.rules.specs.declared.step.Step.{Step}
use Rattle.rules.specs.declared.step.Step.TheVariants.{By32}
use Rattle.rules.specs.Tree.{Tree, there, lacks, look_for, tree_of}
use Rattle.rules.specs.Book.{Row, row_at, row_of, rows_of, arrivals_of, tags_of}
use Rattle.rules.specs.Calls.{Book}
use Rattle.rules.specs.Laws.{AllWellFormed, Agree, arrived_tags}
use Rattle.rules.proofs.Bytes.{bytes_of}
use Rattle.rules.proofs.Rows.{row_is}
use Rattle.rules.proofs.Places.{Place, place, place_at}
use Rattle.rules.proofs.Together.{InStep, blank, both, in_step}
use Rattle.rules.proofs.Agreement.{agrees}
use Rattle.rules.proofs.Values.{cases_option}
use Rattle.rules.proofs.Finds.{tags_arrived}
use Rattle.parts.specs.Maps.{Map, MapFacts, count_of, last_of, Rising}
use Rattle.parts.specs.Stores.{Store}
use Rattle.dictionary.specs.Shows.{tree_in, Shows}
use Rattle.dictionary.specs.Looks.{Holds}
use Rattle.dictionary.proofs.Shelved.{Apart, value_at}

-- the current room is no larger than the last
pub up_to_last : (room : ℕ) (coming : List ℕ) → Rising room coming → room ≤ last_of room coming
up_to_last room [] h = omega arith
up_to_last room (next ∷ coming) h = omega (arith, h.0, up_to_last next coming h.1)

module _ {V : Type 0} (m : Map) (l : Store) (s : List (Option V)) (b : Book V) (sh : Shows m l s b) where
  pub holds_rows : Holds m l (tags_of b.rows)
  holds_rows = record { forms = sh.sound.tags; tree = sh.tree }

  pub step_rows : InStep By32 (tree_in m l) b.rows
  step_rows =
      let i = in_step By32 (arrivals_of b.rows) (subst AllWellFormed (sym (tags_arrived b.rows)) sh.sound.tags) in
      let tags : List (List ℕ) = arrived_tags (arrivals_of b.rows) in
      let tree : tree_of By32 tags ≡ tree_in m l = ap (tree_of By32) (tags_arrived b.rows) ∙ sym sh.tree in
      let rows : b.rows ≡ rows_of By32 (arrivals_of b.rows) = sh.sound.rows ∙ ap (λ (z : Step). rows_of z (arrivals_of b.rows)) sh.step in
      subst (λ (z : Tree). InStep By32 z b.rows) tree (subst (λ (z : List (Row V)). InStep By32 (tree_of By32 tags) z) (sym rows) i)

  pub agree : (tag : List ℕ) → WellFormed tag → Agree By32 (tree_in m l) b.rows tag
  agree tag form = agrees By32 (tree_in m l) b.rows step_rows tag (bytes_of tag form)

  -- no label, no row
  pub no_rows : length l.labels ≡ 0 → b.rows ≡ []
  no_rows z = go step_rows
    where
      go : InStep By32 (tree_in m l) b.rows → b.rows ≡ []
      go (blank e f) = f
      go (both full ok places tr bytes) = absurd (omega (arith, tr.labels_count, (tr.row_at_lem 0 full).0))

  pub some_rows : 0 < length l.labels → 0 < length b.rows
  some_rows h = go step_rows
    where
      go : InStep By32 (tree_in m l) b.rows → 0 < length b.rows
      go (blank e f) = absurd (omega (arith, ap (λ (z : Tree). length z.labels) e))
      go (both full ok places tr bytes) = full

  pub ticket_in : (j : ℕ) → j < length b.rows → (row_at b.rows j).ticket < count_of m
  ticket_in j h = go step_rows
    where
      go : InStep By32 (tree_in m l) b.rows → (row_at b.rows j).ticket < count_of m
      go (blank e f) = absurd (omega (arith, ap (λ (z : List (Row V)). length z) f))
      go (both full ok places tr bytes) = omega (arith, (tr.row_at_lem j h).0, tr.edges_count)

  pub tickets_apart : Apart b.rows
  tickets_apart j k hj hk e = go step_rows
    where
      go : InStep By32 (tree_in m l) b.rows → j ≡ k
      go (blank e' f) = absurd (omega (arith, ap (λ (z : List (Row V)). length z) f))
      go (both full ok places tr bytes) =
          let q : place j 0 ≡ place k 0 = sym (tr.row_at_lem j hj).1 ∙ ap (λ (v : ℕ). place_at places v) e ∙ (tr.row_at_lem k hk).1 in
          ap (λ (z : Place). z.row) q

  module _ (f : MapFacts By32 m) where
    pub in_last : (v : ℕ) → v < m.room → v < length s
    in_last v h = omega (arith, up_to_last m.room m.coming f.rooms, sh.value_places)

    pub ticket_shelved : (j : ℕ) → j < length b.rows → (row_at b.rows j).ticket < length s
    ticket_shelved j h = in_last _ (omega (arith, ticket_in j h, f.fits))

    -- a row's value lies at its ticket
    pub value_there : (j : ℕ) → j < length b.rows → get_or s (row_at b.rows j).ticket None ≡ (row_at b.rows j).value
    value_there j h = sh.values _ (ticket_shelved j h) ∙ value_at b.rows tickets_apart j h

    -- the row of a tag that looking finds
    pub record Here (tag : List ℕ) (u k : ℕ) : Type 0 where
      pub row : ℕ
      pub is : row_of b.rows tag ≡ Some row
      pub in_rows : row < length b.rows
      pub ticket : (row_at b.rows row).ticket ≡ u
      pub moves : (row_at b.rows row).moves ≡ k
      pub value : (row_at b.rows row).value ≡ get_or s u None

    pub here_of : (tag : List ℕ) → WellFormed tag → 0 < length l.labels → (u k : ℕ) → there u k ≡ look_for By32 (tree_in m l) tag → Here tag u k
    here_of tag form some u k e = elim (cases_option (row_of b.rows tag)) [
      | inl n ↦ absurd (
          let a = (agree tag form).absent (some_rows some) n in
          let q : there u k ≡ lacks a.node _ _ _ _ = e ∙ a.ends in
          let z : ◌≡◌ {A = ℕ} 0 1 = cc in
          omega arith)
      | inr j ↦
          let a = (agree tag form).found j.0 j.1 in
          let h = (row_is b.rows tag j.0 j.1).0 in
          let q : there u k ≡ there (row_at b.rows j.0).ticket (row_at b.rows j.0).moves = e ∙ a.ends in
          let t : (row_at b.rows j.0).ticket ≡ u = cc in
          record {
            row = j.0;
            is = j.1;
            in_rows = h;
            ticket = t;
            moves = cc;
            value = sym (value_there j.0 h) ∙ ap (λ (i : ℕ). get_or s i None) t;
          }
    ]

  -- a tag that looking does not find is in no row
  pub none_of : (tag : List ℕ) → WellFormed tag → (u n c : ℕ) (rest : List ℕ) (k : ℕ) → lacks u n c rest k ≡ look_for By32 (tree_in m l) tag → row_of b.rows tag ≡ None
  none_of tag form u n c rest k e = elim (cases_option (row_of b.rows tag)) [
    | inl g ↦ g
    | inr j ↦ absurd (
        let a = (agree tag form).found j.0 j.1 in
        let q : lacks u n c rest k ≡ there (row_at b.rows j.0).ticket (row_at b.rows j.0).moves = e ∙ a.ends in
        let z : ◌≡◌ {A = ℕ} 0 1 = cc in
        omega arith)
  ]
