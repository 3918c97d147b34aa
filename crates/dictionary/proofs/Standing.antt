-- the turns of looking, over map and store
use Rattle.std.proofs.Common.{◌≡◌, ℕ, ◌+◌, ◌-◌, ◌/◌, ◌<◌, ◌≤◌, List, [], ◌∷◌, map, length, get_or, drop, Some, None, sym, refl, ap, ◌∙◌, subst, arith, length-drop, get_or-drop, drop-drop}
use Rattle.tags.specs.Tags.{spelled}
use Rattle.rules.specs.declared.step.Step.TheVariants.{By32}
use Rattle.rules.specs.Steps.{size, branch_symbol}
use Rattle.rules.specs.Words.{shared}
use Rattle.rules.specs.Tree.{child, Down, down, there, lacks, look_for}
use Rattle.rules.specs.Book.{Row, Arrival, rows_of}
use Rattle.rules.specs.Laws.{AllWellFormed, arrived_tags}
use Rattle.rules.proofs.Bytes.{bytes_of}
use Rattle.rules.proofs.Together.{InStep, in_step}
use Rattle.rules.proofs.Turns.{On, Full, not_blank, on_first, at_there, at_short, at_none, at_next}
use Rattle.parts.specs.Maps.{Map, count_of}
use Rattle.parts.specs.Stores.{Store, label_at}
use Rattle.dictionary.specs.Shows.{tree_in}
use Rattle.dictionary.specs.Looks.{Holds, Asked}

-- rows of these tags, each struck: what the tree says does not hang on values
abbrev pub struck_rows : List (List ℕ) → List (Row ℕ)
struck_rows tags = rows_of By32 (map (λ (tag : List ℕ). record { tag = tag; value = None }) tags)

struck_tags : (tags : List (List ℕ)) → arrived_tags {V = ℕ} (map (λ (tag : List ℕ). record { tag = tag; value = None }) tags) ≡ tags
struck_tags [] = refl
struck_tags (tag ∷ tags) = ap (λ (z : List (List ℕ)). tag ∷ z) (struck_tags tags)

pub held_rows : (m : Map) (l : Store) (tags : List (List ℕ)) → Holds m l tags → InStep By32 (tree_in m l) (struck_rows tags)
held_rows m l tags h =
    let arrivals : List (Arrival ℕ) = map (λ (tag : List ℕ). record { tag = tag; value = None }) tags in
    let i = in_step By32 arrivals (subst AllWellFormed (sym (struck_tags tags)) h.forms) in
    rw (struck_tags tags, ← h.tree) at i

-- the end of s that is left to meet
pub record Left (s rest : List ℕ) : Type 0 where
  pub fits : length rest ≤ length s
  pub is : rest ≡ drop (length s - length rest) s

-- how many bytes of s are met
abbrev pub met_of : List ℕ → List ℕ → ℕ
met_of s rest = length s - length rest

pub left_all : (s : List ℕ) → Left s s
left_all s = let z : length s - length s ≡ 0 = omega arith in record { fits = omega arith; is = rw z refl }

pub left_less : (s rest : List ℕ) → Left s rest → (i : ℕ) → i < length rest → (less : List ℕ) → less ≡ drop (i + 1) rest → Left s less
left_less s rest f i h less e =
    let n : length less + (i + 1) ≡ length rest = omega (arith, ap (λ (z : List ℕ). length z) e, length-drop (i + 1) rest) in
    record {
      fits = omega (arith, f.fits);
      is = e ∙ ap (drop (i + 1)) f.is ∙ drop-drop (i + 1) (length s - length rest) s ∙ ap (λ (z : ℕ). drop z s) (omega (arith, f.fits));
    }

pub left_byte : (s rest : List ℕ) → Left s rest → ((k : ℕ) → get_or s k 0 < 256) → (i b : ℕ) → b ≡ get_or rest i 0 → b < 256
left_byte s rest f small i b e =
    let there : b ≡ get_or s (met_of s rest + i) 0 = e ∙ ap (λ (z : List ℕ). get_or z i 0) f.is ∙ get_or-drop (met_of s rest) s i 0 in
    omega (arith, small (met_of s rest + i))

-- where looking stands, if it was rightly asked for
abbrev pub Stands : (m : Map) (l : Store) (s : List ℕ) → ℕ → ℕ → ℕ → Type 0
Stands m l s node from moves = (a : Asked m l s) → On (struck_rows a.tags) a.tag node from moves

module _ (m : Map) (l : Store) (s : List ℕ) (a : Asked m l s) where
  abbrev rows : List (Row ℕ)
  rows = struck_rows a.tags

  full_of : Full By32 (tree_in m l) (struck_rows a.tags)
  full_of = not_blank By32 (tree_in m l) rows (held_rows m l a.tags a.holds) a.some

  pub stands_first : On (struck_rows a.tags) a.tag 0 (met_of s s) 0
  stands_first =
      let f = full_of in
      let none : length s - length s ≡ 0 = omega arith in
      rw none (on_first By32 (tree_in m l) rows f.places f.tr f.ok f.full a.tag (bytes_of a.tag a.form))

  module _ (node : ℕ) (rest : List ℕ) (moves : ℕ) (left : Left s rest) (o : On (struck_rows a.tags) a.tag node (met_of s rest) moves) where
    abbrev from : ℕ
    from = met_of s rest

    pub node_labelled : node < length l.labels
    node_labelled = let f = full_of in omega (arith, o.node_is, (f.tr.row_at_lem o.row o.in_rows).0, f.tr.labels_count)

    pub node_in : node < count_of m
    node_in = let f = full_of in omega (arith, o.node_is, (f.tr.row_at_lem o.row o.in_rows).0, f.tr.edges_count)

    -- i bytes of the label are met by what is left of s
    module _ (i : ℕ) (met : i ≡ shared rest (label_at l node)) where
      met' : i ≡ shared (drop from (spelled a.tag)) (label_at l node)
      met' = met ∙ ap (λ (z : List ℕ). shared z (label_at l node)) left.is ∙ ap (λ (z : List ℕ). shared (drop from z) (label_at l node)) a.is

      pub ends_there : length rest ≤ i → there node moves ≡ look_for By32 (tree_in m l) a.tag
      ends_there h =
          let f = full_of in
          let h' : length (spelled a.tag) ≤ from + i = omega (arith, left.fits, ap (λ (z : List ℕ). length z) a.is) in
          at_there By32 (tree_in m l) rows f.places f.tr f.ok f.full a.tag (bytes_of a.tag a.form) node from moves i o met' h'

      module _ (h : i < length rest) (c : ℕ) (c-is : c ≡ branch_symbol By32 (get_or rest i 0) i) (steps : ℕ) (steps-is : steps ≡ i / size By32)
          (v k : ℕ) (d : ◌≡◌ {A = Down} (record { node = v; missing = k }) (down By32 m.edges steps node)) where
        h' : from + i < length (spelled a.tag)
        h' = omega (arith, left.fits, ap (λ (z : List ℕ). length z) a.is)

        c_is' : c ≡ branch_symbol By32 (get_or (spelled a.tag) (from + i) 0) i
        c_is' = c-is ∙ ap (λ (z : ℕ). branch_symbol By32 z i) (ap (λ (z : List ℕ). get_or z i 0) left.is ∙ get_or-drop from s i 0 ∙ ap (λ (z : List ℕ). get_or z (from + i) 0) a.is)

        d' : down By32 m.edges (i / size By32) node ≡ record { node = v; missing = k }
        d' = ap (λ (z : ℕ). down By32 m.edges z node) (sym steps-is) ∙ sym d

        -- what is left of s after the branching byte, and the moves made
        module _ (less : List ℕ) (less-is : less ≡ drop (i + 1) rest) (mv : ℕ) (mv-is : mv ≡ moves + (i / size By32 - k)) where
          less_is' : less ≡ drop (from + i + 1) (spelled a.tag)
          less_is' =
              let z : from + (i + 1) ≡ from + i + 1 = omega arith in
              less-is ∙ ap (drop (i + 1)) left.is ∙ drop-drop (i + 1) from s ∙ ap (λ (n : ℕ). drop n s) z ∙ ap (drop (from + i + 1)) a.is

          pub ends_short : 0 < k → lacks v k c less mv ≡ look_for By32 (tree_in m l) a.tag
          ends_short n =
              let f = full_of in
              let e = at_short By32 (tree_in m l) rows f.places f.tr f.ok f.full a.tag (bytes_of a.tag a.form) node from moves i o met' h' v k d' n in
              rw (less_is', c_is', mv-is) e

          pub ends_none : k ≡ 0 → None ≡ child m.edges v c → lacks v k c less mv ≡ look_for By32 (tree_in m l) a.tag
          ends_none z n =
              let f = full_of in
              let n' : child m.edges v (branch_symbol By32 (get_or (spelled a.tag) (from + i) 0) i) ≡ None = ap (λ (q : ℕ). child m.edges v q) (sym c_is') ∙ sym n in
              let e = at_none By32 (tree_in m l) rows f.places f.tr f.ok f.full a.tag (bytes_of a.tag a.form) node from moves i o met' h' v k d' z n' in
              rw (less_is', c_is', mv-is) e

          pub goes_on : k ≡ 0 → (u : ℕ) → Some u ≡ child m.edges v c → On (struck_rows a.tags) a.tag u (met_of s less) (mv + 1)
          goes_on z u n =
              let f = full_of in
              let n' : child m.edges v (branch_symbol By32 (get_or (spelled a.tag) (from + i) 0) i) ≡ Some u = ap (λ (q : ℕ). child m.edges v q) (sym c_is') ∙ sym n in
              let e = at_next By32 (tree_in m l) rows f.places f.tr f.ok f.full a.tag (bytes_of a.tag a.form) node from moves i o met' h' v k d' z u n' in
              record {
                row = e.row;
                in_rows = e.in_rows;
                held = e.held;
                node_is = e.node_is;
                from_is = omega (arith, e.from_is, left.fits, ap (λ (q : List ℕ). length q) less-is, length-drop (i + 1) rest);
                moves_is = omega (arith, e.moves_is);
              }
