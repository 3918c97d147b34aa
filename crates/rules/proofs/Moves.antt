-- moves are few
use Rattle.std.proofs.Common.{◌≡◌, ℕ, zero, suc, ◌+◌, ◌<◌, ◌≤◌, List, length, None, sym, subst, inl, inr, arith}
use Rattle.std.proofs.lemmas.Bool.{cases_eq}
use Rattle.tags.proofs.Forms.{length_spelled}
use Rattle.rules.specs.declared.step.Step.{Step}
use Rattle.rules.specs.Book.{Row, row_at, owner_of, offset_of, later_row, absent_moves}
use Rattle.rules.proofs.Steps.{div_le}
use Rattle.rules.proofs.Bytes.{Bytes}
use Rattle.rules.proofs.Rows.{owner_row, Fresh, BookOk}
use Rattle.rules.proofs.Kept.{later_new}
use Rattle.rules.proofs.Descent.{absent_is}

module _ {V : Type 0} (step : Step) where
  -- a row's moves are at most its start
  moves_start : (rows : List (Row V)) → BookOk step rows → (n j : ℕ) → j < n → j < length rows → (row_at rows j).moves ≤ (row_at rows j).start
  moves_start rows ok zero j l h = absurd (omega arith)
  moves_start rows ok (suc n) j l h = elim (cases_eq j 0) [
    | inl e ↦ subst (λ (q : ℕ). (row_at rows q).moves ≤ (row_at rows q).start) (sym e) (omega (arith, ok.moves_0, ok.start_0))
    | inr d ↦ let r = ok.row j (omega arith) h in
        let m = moves_start rows ok n (owner_row (row_at rows j)) (omega (arith, r.before)) (omega (arith, r.before)) in
        omega (arith, r.counts, r.starts, m, div_le step (row_at rows j).offset)
  ]

  pub moves_few : (rows : List (Row V)) → BookOk step rows → (j : ℕ) → j < length rows → (row_at rows j).moves ≤ length (row_at rows j).tag + 1
  moves_few rows ok j h =
      let m = moves_start rows ok (suc j) j (omega arith) h in
      elim (cases_eq j 0) [
        | inl e ↦ let z : (row_at rows j).moves ≡ 0 = subst (λ (q : ℕ). (row_at rows q).moves ≡ 0) (sym e) ok.moves_0 in omega arith
        | inr d ↦ omega (arith, (ok.row j (omega arith) h).fits, length_spelled (row_at rows j).tag, m)
      ]

  pub absent_few : (rows : List (Row V)) → BookOk step rows → 0 < length rows → (tag : List ℕ) → Bytes tag → Fresh rows tag → absent_moves step rows tag ≤ length tag + 1
  unfolding later_row
  absent_few rows ok full tag by fr =
      let n = later_new step rows ok full tag None by fr in
      let m = moves_start rows ok (length rows) (owner_of rows tag) n.before n.before in
      omega (arith, absent_is step rows tag full, n.starts, n.fits, div_le step (offset_of rows tag), length_spelled tag)
