-- the values in the rows do not matter to what else the rows say
use Rattle.std.proofs.Common.{◌≡◌, ℕ, zero, suc, ◌+◌, ◌/◌, ◌≤◌, max, true, false, leb, ◌⊎◌, List, [], ◌∷◌, ◌++◌, map, length, Some, None, Option, sym, refl, ap, ◌∙◌, inl, inr, arith}
use Rattle.std.proofs.lemmas.List.{append-nil, append_assoc, append_cancel_left, length-map, map_push}
use Rattle.tags.specs.Tags.{spelled}
use Rattle.rules.specs.declared.step.Step.{Step}
use Rattle.rules.specs.Steps.{size}
use Rattle.rules.specs.Words.{shared, same_word}
use Rattle.rules.specs.Book.{Row, row_at, most, earliest, owns, steps_of, nodes, row_bytes, label_bytes, later_row, next_row, row_of, Arrival, arrive, arrive_all, rows_of, arrivals_of}
use Rattle.rules.specs.Calls.{with_value}

pub cases_option : {A : Type 0} (o : Option A) → (o ≡ None) ⊎ ((a : A) × (o ≡ Some a))
cases_option None = inl refl
cases_option (Some a) = inr (a, refl)

module _ {V : Type 0} where
  -- the rows without their values
  abbrev pub all_struck : List (Row V) → List (Row V)
  all_struck rows = map (λ (r : Row V). with_value r None) rows

  row_struck : (rows : List (Row V)) (j : ℕ) → row_at (all_struck rows) j ≡ with_value (row_at rows j) None
  row_struck [] j = refl
  row_struck (r ∷ rs) zero = refl
  row_struck (r ∷ rs) (suc j) = row_struck rs j

  most_struck : (s : List ℕ) (rows : List (Row V)) → most s (all_struck rows) ≡ most s rows
  unfolding most
  most_struck s [] = refl
  most_struck s (r ∷ rs) = ap (max (shared s (spelled r.tag))) (most_struck s rs)

  earliest_struck : (s : List ℕ) (d : ℕ) (rows : List (Row V)) → earliest s d (all_struck rows) ≡ earliest s d rows
  unfolding earliest
  earliest_struck s d [] = refl
  earliest_struck s d (r ∷ rs) = ap (λ (n : ℕ). elim (leb d (shared s (spelled r.tag))) [ true ↦ 0 | false ↦ suc n ]) (earliest_struck s d rs)

  steps_struck : (step : Step) (o : ℕ) (rows : List (Row V)) → steps_of step o (all_struck rows) ≡ steps_of step o rows
  unfolding steps_of
  steps_struck step o [] = refl
  steps_struck step o (r ∷ rs) = ap (λ (n : ℕ). elim (owns o r) [ true ↦ max (r.offset / size step) n | false ↦ n ]) (steps_struck step o rs)

  nodes_struck : (rows : List (Row V)) → nodes (all_struck rows) ≡ nodes rows
  unfolding nodes
  nodes_struck [] = refl
  nodes_struck (r ∷ rs) = ap (λ (n : ℕ). r.needs + n) (nodes_struck rs)

  pub bytes_struck : (rows : List (Row V)) → label_bytes (all_struck rows) ≡ label_bytes rows
  unfolding label_bytes
  bytes_struck [] = refl
  bytes_struck (r ∷ rs) = ap (λ (n : ℕ). row_bytes r + n) (bytes_struck rs)

  row_of_struck : (rows : List (Row V)) (tag : List ℕ) → row_of (all_struck rows) tag ≡ row_of rows tag
  unfolding row_of
  row_of_struck [] tag = refl
  row_of_struck (r ∷ rs) tag = ap (λ (o : Option ℕ). elim (same_word r.tag tag) [ true ↦ Some 0 | false ↦ elim o [ None ↦ None | Some j ↦ Some (suc j) ] ]) (row_of_struck rs tag)

  later_struck : (step : Step) (rows : List (Row V)) (tag : List ℕ) (value : Option V) → later_row step rows tag value ≡ with_value (later_row step (all_struck rows) tag None) value
  unfolding later_row
  later_struck step rows tag value = simp (most_struck, earliest_struck, steps_struck, nodes_struck, row_struck)

  next_struck : (step : Step) (rows : List (Row V)) (tag : List ℕ) (value : Option V) → next_row step rows tag value ≡ with_value (next_row step (all_struck rows) tag None) value
  unfolding next_row
  next_struck step [] tag value = refl
  next_struck step (r ∷ rs) tag value = later_struck step (r ∷ rs) tag value

  pub arrive_new : (step : Step) (rows : List (Row V)) (a : Arrival V) → row_of rows a.tag ≡ None → arrive step rows a ≡ rows ++ (next_row step rows a.tag a.value ∷ [])
  unfolding arrive
  arrive_new step rows a e = rw (e, arrive) refl

  -- the first of some arrivals, in no row or in one
  new_first : (step : Step) (rows : List (Row V)) (a : Arrival V) (arrivals : List (Arrival V)) → row_of rows a.tag ≡ None
      → arrive_all step rows (a ∷ arrivals) ≡ arrive_all step (rows ++ (next_row step rows a.tag a.value ∷ [])) arrivals
  unfolding arrive_all
  new_first step rows a arrivals e = ap (λ (l : List (Row V)). arrive_all step l arrivals) (arrive_new step rows a e)

  old_first : (step : Step) (rows : List (Row V)) (a : Arrival V) (arrivals : List (Arrival V)) (j : ℕ) → row_of rows a.tag ≡ Some j
      → arrive_all step rows (a ∷ arrivals) ≡ arrive_all step rows arrivals
  unfolding arrive_all arrive
  old_first step rows a arrivals j e = ap (λ (l : List (Row V)). arrive_all step l arrivals) (rw (e, arrive) refl)

  -- arrivals add rows at the end, at most as many as they are
  abbrev Adds : Step → List (Row V) → List (Arrival V) → Type 0
  Adds step rows arrivals = (more : List (Row V)) × (arrive_all step rows arrivals ≡ rows ++ more) × (length more ≤ length arrivals)

  adds : (step : Step) (arrivals : List (Arrival V)) (rows : List (Row V)) → Adds step rows arrivals
  unfolding arrive_all
  adds step [] rows = ([], sym (append-nil rows), omega arith)
  adds step (a ∷ arrivals) rows = elim (cases_option (row_of rows a.tag)) [
    | inl e ↦
        let r : Row V = next_row step rows a.tag a.value in
        let k = adds step arrivals (rows ++ (r ∷ [])) in
        (r ∷ k.0, new_first step rows a arrivals e ∙ k.1 ∙ append_assoc rows (r ∷ []) k.0, omega (arith, k.2))
    | inr e ↦ let k = adds step arrivals rows in (k.0, old_first step rows a arrivals e.0 e.1 ∙ k.1, omega (arith, k.2))
  ]

  struck_push : (rows other : List (Row V)) (r x : Row V) → all_struck rows ≡ all_struck other → with_value r None ≡ with_value x None
      → all_struck (rows ++ (r ∷ [])) ≡ all_struck (other ++ (x ∷ []))
  struck_push rows other r x same e = simp (map_push (λ (z : Row V). with_value z None), same, e)

  -- a tag in no row of some rows is in none of rows that differ in values alone
  none_same : (rows other : List (Row V)) (r x : Row V) → all_struck rows ≡ all_struck other → with_value r None ≡ with_value x None
      → row_of rows r.tag ≡ None → row_of other x.tag ≡ None
  none_same rows other r x same e h =
      sym (row_of_struck other x.tag) ∙ rw (← same, ← ap (λ (z : Row V). z.tag) e) (row_of_struck rows r.tag ∙ h)

  -- and the next row is the same but for the value
  next_same : (step : Step) (rows other : List (Row V)) (r x : Row V) → all_struck rows ≡ all_struck other → with_value r None ≡ with_value x None
      → next_row step rows r.tag r.value ≡ r → next_row step other x.tag x.value ≡ x
  next_same step rows other r x same e h =
      next_struck step other x.tag x.value
      ∙ rw (← same, ← ap (λ (z : Row V). z.tag) e) (ap (λ (z : Row V). with_value z x.value) (sym (next_struck step rows r.tag r.value) ∙ h))
      ∙ ap (λ (z : Row V). with_value z x.value) e

  -- rows that are those of their own arrivals are so with other values too
  revalued : (step : Step) (rest others rows done : List (Row V)) → all_struck rows ≡ all_struck done → all_struck rest ≡ all_struck others
      → arrive_all step rows (arrivals_of rest) ≡ rows ++ rest → arrive_all step done (arrivals_of others) ≡ done ++ others
  unfolding arrive_all
  revalued step [] [] rows done same e h = sym (append-nil done)
  revalued step [] (x ∷ xs) rows done same e h = absurd (omega (arith, ap (λ (z : List (Row V)). length z) e))
  revalued step (r ∷ rs) [] rows done same e h = absurd (omega (arith, ap (λ (z : List (Row V)). length z) e))
  revalued step (r ∷ rs) (x ∷ xs) rows done same e h =
      let head : with_value r None ≡ with_value x None = cc in
      let tail : all_struck rs ≡ all_struck xs = cc in
      let a : Arrival V = record { tag = r.tag; value = r.value } in
      elim (cases_option (row_of rows r.tag)) [
        | inl f ↦
            let y : Row V = next_row step rows r.tag r.value in
            let k = adds step (arrivals_of rs) (rows ++ (y ∷ [])) in
            let h' : arrive_all step (rows ++ (y ∷ [])) (arrivals_of rs) ≡ rows ++ (r ∷ rs) = sym (new_first step rows a (arrivals_of rs) f) ∙ h in
            let z = append_cancel_left rows (y ∷ k.0) (r ∷ rs) (sym (append_assoc rows (y ∷ []) k.0) ∙ sym k.1 ∙ h') in
            let y_is : y ≡ r = cc in
            let b : Arrival V = record { tag = x.tag; value = x.value } in
            let ih = revalued step rs xs (rows ++ (r ∷ [])) (done ++ (x ∷ [])) (struck_push rows done r x same head) tail (rw y_is at h' ∙ sym (append_assoc rows (r ∷ []) rs)) in
            new_first step done b (arrivals_of xs) (none_same rows done r x same head f) ∙ rw (next_same step rows done r x same head y_is) (ih ∙ append_assoc done (x ∷ []) xs)
        | inr f ↦
            let k = adds step (arrivals_of rs) rows in
            let z = append_cancel_left rows k.0 (r ∷ rs) (sym k.1 ∙ sym (old_first step rows a (arrivals_of rs) f.0 f.1) ∙ h) in
            let n : length (arrivals_of rs) ≡ length rs = length-map rs _ in
            absurd (omega (arith, k.2, ap (λ (l : List (Row V)). length l) z))
      ]

  pub other_values : (step : Step) (rows other : List (Row V)) → all_struck rows ≡ all_struck other → rows ≡ rows_of step (arrivals_of rows) → other ≡ rows_of step (arrivals_of other)
  unfolding rows_of
  other_values step rows other same h = sym (revalued step rows other [] [] refl same (sym h))
