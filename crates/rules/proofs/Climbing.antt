-- climbing from a row's node, stage by stage
use Rattle.std.proofs.Common.{◌≡◌, ℕ, zero, suc, ◌+◌, ◌-◌, ◌*◌, ◌/◌, ◌%◌, ◌<◌, ◌≤◌, List, [], ◌∷◌, ◌++◌, length, get_or, take, drop, sym, refl, ap, ◌∙◌, subst, inl, inr, append_assoc, arith, length-append, length-drop, length-take-le, take_all, take-suc, take-add}
use Rattle.std.proofs.lemmas.List.{append-nil}
use Rattle.std.proofs.lemmas.Bool.{cases_eq, eq-eqb, ne_eqb}
use Rattle.rules.specs.declared.step.Step.{Step}
use Rattle.rules.specs.Steps.{size, step_symbol}
use Rattle.rules.specs.Words.{shared}
use Rattle.rules.specs.Tree.{Tree, edge_of, label_of, climb_from, climb}
use Rattle.rules.specs.Book.{Row, row_at, word}
use Rattle.rules.proofs.Steps.{branch_below, branch_mod, branch_div, whole, one_more, none_yet}
use Rattle.rules.proofs.Bytes.{byte_below}
use Rattle.rules.proofs.Shared.{shared_sym, shared_length, shared_take}
use Rattle.rules.proofs.Rows.{owner_row, BookOk}
use Rattle.rules.proofs.Places.{Place, place, place_at, byte, NodeIs, top, of_row, of_step, TreeOk}
use Rattle.rules.proofs.Descent.{row_label}

rejoin : (w v : List ℕ) (d i : ℕ) (spelt : List ℕ) → d ≤ shared w v → d < length w → take d v ++ (get_or w d 0 ∷ (take i (drop (suc d) w) ++ spelt)) ≡ take (suc d + i) w ++ spelt
rejoin w v d i spelt h l =
    let e : take d v ≡ take d w = sym (shared_take w v d h) in
    let f : take (suc d) w ≡ take d w ++ (get_or w d 0 ∷ []) = take-suc w d 0 l in
    let g : take (suc d + i) w ≡ take (suc d) w ++ take i (drop (suc d) w) = take-add (suc d) i w in
    rw (e, g, f) (simp append_assoc)

module _ (step : Step) where
  climb_from_top : (t : Tree) (fuel v i : ℕ) (spelt : List ℕ) → v ≡ 0 → climb_from step t (suc fuel) v i spelt ≡ take i (label_of t v) ++ spelt
  unfolding climb_from
  climb_from_top t fuel v i spelt e = rw (eq-eqb v 0 e, climb_from) refl

  climb_from_step : (t : Tree) (fuel v i : ℕ) (spelt : List ℕ) → (v ≡ 0 → ⊥) → (edge_of t.edges v).symbol ≡ step_symbol step
      → climb_from step t (suc fuel) v i spelt ≡ climb_from step t fuel (edge_of t.edges v).parent (i + size step) spelt
  unfolding climb_from
  climb_from_step t fuel v i spelt e s = rw (ne_eqb v 0 e, eq-eqb (edge_of t.edges v).symbol (step_symbol step) s, climb_from) refl

  climb_from_row : (t : Tree) (fuel v i : ℕ) (spelt : List ℕ) → (v ≡ 0 → ⊥) → ((edge_of t.edges v).symbol ≡ step_symbol step → ⊥)
      → climb_from step t (suc fuel) v i spelt
      ≡ climb_from step t fuel (edge_of t.edges v).parent ((edge_of t.edges v).symbol % size step) ((edge_of t.edges v).symbol / size step ∷ (take i (label_of t v) ++ spelt))
  unfolding climb_from
  climb_from_row t fuel v i spelt e s = rw (ne_eqb v 0 e, ne_eqb (edge_of t.edges v).symbol (step_symbol step) s, climb_from) refl

module _ {V : Type 0} (step : Step) where
  -- from v, of whose label i bytes are wanted in front of what is spelled already, the word of row j comes out
  pub record Climbing (rows : List (Row V)) (places : List Place) (j v i : ℕ) (spelt : List ℕ) : Type 0 where
    pub row : ℕ
    pub depth : ℕ
    pub inside : v < length places
    pub placed : place_at places v ≡ place row depth
    pub fits : (row_at rows row).start + (size step * depth + i) ≤ length (word rows row)
    pub comes : take ((row_at rows row).start + (size step * depth + i)) (word rows row) ++ spelt ≡ word rows j

  -- what is still to come has room before what is spelled already
  pub climb_room : (rows : List (Row V)) (places : List Place) (j v i : ℕ) (spelt : List ℕ) → Climbing rows places j v i spelt → i + length spelt ≤ length (word rows j)
  climb_room rows places j v i spelt c =
      let n : ℕ = (row_at rows c.row).start + (size step * c.depth + i) in
      let e = ap (λ (q : List ℕ). length q) c.comes in
      omega (arith, c.fits, e, length-append (take n (word rows c.row)) spelt, length-take-le n (word rows c.row) c.fits)

  module _ (t : Tree) (rows : List (Row V)) (places : List Place) (tr : TreeOk step t rows places) (ok : BookOk step rows) where
    start_in : (j : ℕ) → j < length rows → (row_at rows j).start ≤ length (word rows j)
    start_in zero h = omega (arith, ok.start_0)
    start_in (suc j) h = (ok.row (suc j) (omega arith) h).fits

    pub climb_first : (j : ℕ) → j < length rows → Climbing rows places j (row_at rows j).ticket (length (label_of t (row_at rows j).ticket)) []
    climb_first j h =
        let r = tr.row_at_lem j h in
        let i : ℕ = length (label_of t (row_at rows j).ticket) in
        let n : ℕ = (row_at rows j).start + (size step * 0 + i) in
        let all : (row_at rows j).start + (size step * 0 + i) ≡ length (word rows j) =
        omega (arith, none_yet step i, ap (λ (q : List ℕ). length q) (row_label step t rows places tr ok j h), length-drop (row_at rows j).start (word rows j), start_in j h) in
        record {
          row = j;
          depth = 0;
          inside = r.0;
          placed = r.1;
          fits = omega (arith, all);
          comes = append-nil (take n (word rows j)) ∙ take_all n (word rows j) (omega (arith, all));
        }

    module _ (j v i : ℕ) (spelt : List ℕ) (c : Climbing rows places j v i spelt) where
      -- at node 0 the climb ends
      pub record Topped : Type 0 where
        pub enough : i ≤ length (label_of t v)
        pub all : take i (label_of t v) ++ spelt ≡ word rows j

      pub climb_top : v ≡ 0 → Topped
      climb_top z = go (tr.node v c.inside)
        where
          go : NodeIs step t rows places v → Topped
          go (of_step o k ol kl n ul un s b) = absurd (omega (arith, ul))
          go (of_row m y ml n ul un s b) = absurd (omega (arith, ul))
          go (top y n b) =
              let q = sym c.placed ∙ n in
              let r0 : c.row ≡ 0 = ap (λ (x : Place). x.row) q in
              let d0 : c.depth ≡ 0 = ap (λ (x : Place). x.depth) q in
              let st : (row_at rows c.row).start ≡ 0 = subst (λ (x : ℕ). (row_at rows x).start ≡ 0) (sym r0) ok.start_0 in
              let w : label_of t v ≡ word rows c.row = b ∙ ap (λ (x : ℕ). drop x (word rows 0)) ok.start_0 ∙ ap (λ (x : ℕ). word rows x) (sym r0) in
              let ar : i ≡ (row_at rows c.row).start + (size step * c.depth + i) = omega (arith, st, ap (λ (x : ℕ). size step * x) d0, none_yet step i) in
              record {
                enough = omega (arith, ar, c.fits, ap (λ (x : List ℕ). length x) w);
                all = ap (λ (x : List ℕ). take i x ++ spelt) w ∙ ap (λ (x : ℕ). take x (word rows c.row) ++ spelt) ar ∙ c.comes;
              }

      -- a step node stands for `size` places of the label above it
      pub climb_step : 0 < v → (edge_of t.edges v).symbol ≡ step_symbol step → Climbing rows places j (edge_of t.edges v).parent (i + size step) spelt
      climb_step z e = go (tr.node v c.inside)
        where
          go : NodeIs step t rows places v → Climbing rows places j (edge_of t.edges v).parent (i + size step) spelt
          go (top y n b) = absurd (omega (arith, y))
          go (of_row m y ml n ul un s b) =
              absurd (omega (arith, s, e, branch_below step (byte rows m) (row_at rows m).offset (byte_below (row_at rows m).tag (ok.bytes m ml) ((row_at rows m).start - 1))))
          go (of_step o k ol kl n ul un s b) =
              let q = sym c.placed ∙ n in
              let ro : o ≡ c.row = sym (ap (λ (x : Place). x.row) q) in
              let dk : c.depth ≡ suc k = ap (λ (x : Place). x.depth) q in
              let ar : (row_at rows c.row).start + (size step * k + (i + size step)) ≡ (row_at rows c.row).start + (size step * c.depth + i) =
              omega (arith, ap (λ (x : ℕ). size step * x) dk, one_more step k) in
              record {
                row = c.row;
                depth = k;
                inside = omega (arith, ul, c.inside);
                placed = un ∙ ap (λ (x : ℕ). place x k) ro;
                fits = omega (arith, ar, c.fits);
                comes = ap (λ (x : ℕ). take x (word rows c.row) ++ spelt) ar ∙ c.comes;
              }

      -- any other node is a row's, and hangs by a byte of its word
      pub record Passed : Type 0 where
        pub enough : i ≤ length (label_of t v)
        pub small : (edge_of t.edges v).symbol / size step < 255
        pub next : Climbing rows places j (edge_of t.edges v).parent ((edge_of t.edges v).symbol % size step) ((edge_of t.edges v).symbol / size step ∷ (take i (label_of t v) ++ spelt))

      pub climb_row : 0 < v → ((edge_of t.edges v).symbol ≡ step_symbol step → ⊥) → Passed
      climb_row z e = go (tr.node v c.inside)
        where
          go : NodeIs step t rows places v → Passed
          go (top y n b) = absurd (omega (arith, y))
          go (of_step o k ol kl n ul un s b) = absurd (e s)
          go (of_row m y ml n ul un s b) =
              let q = sym c.placed ∙ n in
              let rm : c.row ≡ m = ap (λ (x : Place). x.row) q in
              let d0 : c.depth ≡ 0 = ap (λ (x : Place). x.depth) q in
              let r = ok.row m y ml in
              let symbol : ℕ = (edge_of t.edges v).symbol in
              let sm : symbol % size step ≡ (row_at rows m).offset % size step = ap (λ (x : ℕ). x % size step) s ∙ branch_mod step (byte rows m) (row_at rows m).offset in
              let sd : symbol / size step ≡ byte rows m = ap (λ (x : ℕ). x / size step) s ∙ branch_div step (byte rows m) (row_at rows m).offset in
              let d : ℕ = (row_at rows m).start - 1 in
              let ds : suc d ≡ (row_at rows m).start = omega (arith, r.starts) in
              let o : ℕ = owner_row (row_at rows m) in
              let ar : (row_at rows o).start + (size step * ((row_at rows m).offset / size step) + symbol % size step) ≡ d = omega (arith, r.starts, whole step (row_at rows m).offset, sm) in
              let z0 : size step * c.depth + i ≡ i = ap (λ (x : ℕ). size step * x + i) d0 ∙ none_yet step i in
              let fm : (row_at rows m).start + (size step * c.depth + i) ≤ length (word rows m) =
              subst (λ (x : ℕ). (row_at rows x).start + (size step * c.depth + i) ≤ length (word rows x)) rm c.fits in
              let cm : take ((row_at rows m).start + (size step * c.depth + i)) (word rows m) ++ spelt ≡ word rows j =
              subst (λ (x : ℕ). take ((row_at rows x).start + (size step * c.depth + i)) (word rows x) ++ spelt ≡ word rows j) rm c.comes in
              let lb : take i (label_of t v) ≡ take i (drop (suc d) (word rows m)) = ap (λ (x : List ℕ). take i x) (b ∙ ap (λ (x : ℕ). drop x (word rows m)) (sym ds)) in
              let ar2 : suc d + i ≡ (row_at rows m).start + (size step * c.depth + i) = omega (arith, ds, z0) in
              record {
                enough = omega (arith, fm, z0, ap (λ (x : List ℕ). length x) b, length-drop (row_at rows m).start (word rows m));
                small = omega (arith, sd, byte_below (row_at rows m).tag (ok.bytes m ml) ((row_at rows m).start - 1));
                next = record {
                  row = o;
                  depth = (row_at rows m).offset / size step;
                  inside = omega (arith, ul, c.inside);
                  placed = un;
                  fits = omega (arith, ar, ds, r.meets, shared_sym (word rows m) (word rows o), shared_length (word rows o) (word rows m));
                  comes = ap (λ (x : ℕ). take x (word rows o) ++ (symbol / size step ∷ (take i (label_of t v) ++ spelt))) ar
                      ∙ ap (λ (x : ℕ). take d (word rows o) ++ (x ∷ (take i (label_of t v) ++ spelt))) sd
                      ∙ ap (λ (x : List ℕ). take d (word rows o) ++ (byte rows m ∷ (x ++ spelt))) lb
                      ∙ rejoin (word rows m) (word rows o) d i spelt (omega (arith, r.meets)) (omega (arith, r.fits))
                      ∙ ap (λ (x : ℕ). take x (word rows m) ++ spelt) ar2
                      ∙ cm;
                };
              }

      parent_below : 0 < v → (edge_of t.edges v).parent < v
      parent_below z = go (tr.node v c.inside)
        where
          go : NodeIs step t rows places v → (edge_of t.edges v).parent < v
          go (top y n b) = absurd (omega (arith, y))
          go (of_step o k ol kl n ul un s b) = ul
          go (of_row m y ml n ul un s b) = ul

    climbs_from : (fuel j v i : ℕ) (spelt : List ℕ) → v < fuel → Climbing rows places j v i spelt → climb_from step t fuel v i spelt ≡ word rows j
    climbs_from zero j v i spelt l c = absurd (omega arith)
    climbs_from (suc fuel) j v i spelt l c = elim (cases_eq v 0) [
      | inl z ↦ climb_from_top step t fuel v i spelt z ∙ (climb_top j v i spelt c z).all
      | inr n ↦
          let below = parent_below j v i spelt c (omega arith) in
          elim (cases_eq (edge_of t.edges v).symbol (step_symbol step)) [
            | inl e ↦ climb_from_step step t fuel v i spelt n e ∙ climbs_from fuel j _ _ _ (omega arith) (climb_step j v i spelt c (omega arith) e)
            | inr e ↦ climb_from_row step t fuel v i spelt n e ∙ climbs_from fuel j _ _ _ (omega arith) (climb_row j v i spelt c (omega arith) e).next
          ]
    ]

    -- a row's ticket climbs back to its word
    pub climbs : (j : ℕ) → j < length rows → climb step t (row_at rows j).ticket ≡ word rows j
    climbs j h = climbs_from (suc (row_at rows j).ticket) j (row_at rows j).ticket _ [] (omega arith) (climb_first j h)
