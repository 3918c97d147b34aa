-- a new row keeps what holds of the book
use Rattle.std.proofs.Common.{◌≡◌, ℕ, suc, ◌+◌, ◌/◌, ◌<◌, ◌≤◌, List, [], ◌∷◌, ◌++◌, length, None, Option, sym, refl, subst, inl, inr, arith}
use Rattle.std.proofs.lemmas.List.{get_or_append_left, get_or_push, length_push}
use Rattle.std.proofs.lemmas.Bool.{cases_eq, cases_lt}
use Rattle.tags.specs.Tags.{spelled}
use Rattle.rules.specs.declared.step.Step.{Step}
use Rattle.rules.specs.Steps.{size}
use Rattle.rules.specs.Words.{shared}
use Rattle.rules.specs.Book.{Row, first_row, row_at, word, most, earliest, later_row}
use Rattle.rules.proofs.Bytes.{Bytes}
use Rattle.rules.proofs.Shared.{shared_across, spelled_whole}
use Rattle.rules.proofs.Rows.{owner_row, Owned, most_bound, most_met, earliest_hit, owner_in, Fresh, RowOk, BookOk}

module _ {V : Type 0} where
  abbrev pub push : List (Row V) → Row V → List (Row V)
  push rows x = rows ++ (x ∷ [])

  pub row_at_old : (rows : List (Row V)) (x : Row V) (j : ℕ) → j < length rows → row_at (push rows x) j ≡ row_at rows j
  row_at_old rows x j h = get_or_append_left rows (x ∷ []) (first_row [] None) j h

  pub row_at_new : (rows : List (Row V)) (x : Row V) → row_at (push rows x) (length rows) ≡ x
  row_at_new rows x = get_or_push rows x (first_row [] None) (length rows) refl

module _ {V : Type 0} (step : Step) where
  -- a row keeps what holds of it when another comes
  row_old : (rows : List (Row V)) (x : Row V) (j : ℕ) → j < length rows → RowOk step rows j → RowOk step (push rows x) j
  row_old rows x j h r =
      let e = row_at_old rows x j h in
      let o = row_at_old rows x (owner_row (row_at rows j)) (omega (arith, r.before)) in
      record {
        owned = rw e r.owned;
        before = rw e r.before;
        meets = rw (e, o) r.meets;
        bound = λ k l. rw (e, row_at_old rows x k (omega arith)) (r.bound k l);
        prior = λ k l. let l' : k < owner_row (row_at rows j) = rw e at l in rw (e, row_at_old rows x k (omega (arith, r.before))) (r.prior k l');
        starts = rw (e, o) r.starts;
        fits = rw e r.fits;
        counts = rw (e, o) r.counts;
      }

  -- a row that is not in the book yet, against all rows there
  pub record NewRow (rows : List (Row V)) (x : Row V) : Type 0 where
    pub owned : Owned x
    pub before : owner_row x < length rows
    pub meets : suc (shared (spelled x.tag) (word rows (owner_row x))) ≡ x.start
    pub bound : (k : ℕ) → k < length rows → shared (spelled x.tag) (word rows k) < x.start
    pub prior : (k : ℕ) → k < owner_row x → suc (shared (spelled x.tag) (word rows k)) < x.start
    pub starts : suc ((row_at rows (owner_row x)).start + x.offset) ≡ x.start
    pub fits : x.start ≤ length (spelled x.tag)
    pub counts : x.moves ≡ (row_at rows (owner_row x)).moves + 1 + x.offset / size step

  row_new : (rows : List (Row V)) (x : Row V) → NewRow rows x → RowOk step (push rows x) (length rows)
  row_new rows x r =
      let e = row_at_new rows x in
      let o = row_at_old rows x (owner_row x) r.before in
      record {
        owned = rw e r.owned;
        before = rw e r.before;
        meets = rw (e, o) r.meets;
        bound = λ k l. rw (e, row_at_old rows x k (omega arith)) (r.bound k l);
        prior = λ k l. let l' : k < owner_row x = rw e at l in rw (e, row_at_old rows x k (omega (arith, r.before))) (r.prior k l');
        starts = rw (e, o) r.starts;
        fits = rw e r.fits;
        counts = rw (e, o) r.counts;
      }

  pub later_new : (rows : List (Row V)) → BookOk step rows → 0 < length rows → (tag : List ℕ) (value : Option V) → Bytes tag → Fresh rows tag → NewRow rows (later_row step rows tag value)
  unfolding later_row
  later_new rows ok full tag value by fr =
      let s : List ℕ = spelled tag in
      let d : ℕ = most s rows in
      let o : ℕ = earliest s d rows in
      let m = most_met s rows full in
      let hit = earliest_hit s d rows m.0 m.1 (omega (arith, m.2)) in
      let met : shared s (word rows (earliest s d rows)) ≡ d = omega (arith, hit.1, most_bound s rows (earliest s d rows) (owner_in rows full tag)) in
      let ol : o < length rows = owner_in rows full tag in
      let prior : (k : ℕ) → k < o → suc (shared s (word rows k)) < d + 1 = λ k l.
      (let b = most_bound s rows k (omega arith) in
      elim (cases_eq (shared s (word rows k)) d) [
        | inl e ↦ absurd (let z = (earliest_hit s d rows k (omega arith) (omega arith)).0 in omega arith)
        | inr n ↦ omega arith
      ]) in
      let st : (row_at rows o).start ≤ d = elim (cases_lt d (row_at rows o).start) [
        | inr g ↦ g
        | inl l ↦ elim (cases_eq o 0) [
          | inl e ↦ absurd (let z : (row_at rows o).start ≡ 0 = subst (λ (q : ℕ). (row_at rows q).start ≡ 0) (sym e) ok.start_0 in omega arith)
          | inr n ↦ absurd (let r = ok.row o (omega arith) ol in
              let p = prior (owner_row (row_at rows o)) r.before in
              omega (arith, r.meets, p, met, shared_across s (word rows o) (word rows (owner_row (row_at rows o)))))
        ]
      ] in
      record {
        owned = refl;
        before = ol;
        meets = omega (arith, met);
        bound = λ k l. omega (arith, most_bound s rows k l);
        prior = prior;
        starts = omega arith;
        fits = elim (cases_lt d (length s)) [
          | inl l ↦ omega arith
          | inr g ↦ absurd (fr o ol (sym (spelled_whole tag (row_at rows o).tag by (ok.bytes o ol) (omega (arith, met)))))
        ];
        counts = refl;
      }

  pub later_tag : (rows : List (Row V)) (tag : List ℕ) (value : Option V) → (later_row step rows tag value).tag ≡ tag
  unfolding later_row
  later_tag rows tag value = refl

  -- a book of one row
  pub first_ok : (tag : List ℕ) (value : Option V) → Bytes tag → BookOk step (first_row tag value ∷ [])
  first_ok tag value by = record {
    bytes = λ j h. let e : 0 ≡ j = omega arith in subst (λ (q : ℕ). Bytes (row_at (first_row tag value ∷ []) q).tag) e by;
    start_0 = refl;
    owner_0 = refl;
    moves_0 = refl;
    ticket_0 = refl;
    row = λ j z h. absurd (omega arith);
  }

  pub book_more : (rows : List (Row V)) → BookOk step rows → 0 < length rows → (tag : List ℕ) (value : Option V) → Bytes tag → Fresh rows tag
      → BookOk step (push rows (later_row step rows tag value))
  book_more rows ok full tag value by fr = record {
    bytes = λ j h. elim (cases_lt j (length rows)) [
      | inl l ↦ rw (row_at_old rows x j l) (ok.bytes j l)
      | inr g ↦ let e : length rows ≡ j = omega (arith, length_push rows x) in
          subst (λ (q : ℕ). Bytes (row_at (push rows x) q).tag) e (rw (row_at_new rows x, later_tag rows tag value) by)
    ];
    start_0 = rw (row_at_old rows x 0 full) ok.start_0;
    owner_0 = rw (row_at_old rows x 0 full) ok.owner_0;
    moves_0 = rw (row_at_old rows x 0 full) ok.moves_0;
    ticket_0 = rw (row_at_old rows x 0 full) ok.ticket_0;
    row = λ j z h. elim (cases_lt j (length rows)) [
      | inl l ↦ row_old rows x j l (ok.row j z l)
      | inr g ↦ let e : length rows ≡ j = omega (arith, length_push rows x) in
          subst (λ (q : ℕ). RowOk step (push rows x) q) e (row_new rows x (later_new rows ok full tag value by fr))
    ];
  }
    where
      x : Row V
      x = later_row step rows tag value
