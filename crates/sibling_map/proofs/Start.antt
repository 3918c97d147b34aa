-- the records of a new map
use Rattle.std.proofs.Common.{◌≡◌, ℕ, zero, suc, ◌<◌, ◌≤◌, List, [], length, set, None, Option, sym, refl, ap, ◌∙◌, arith, get_or-set_same}
use Rattle.sibling_map.specs.declared.record.NodeRecord.{NodeRecord}
use Rattle.sibling_map.specs.Records.{parent_of, record_of, blank, at, Laid}
use Rattle.sibling_map.proofs.Newest.{newest_zero}
use Rattle.sibling_map.proofs.Read.{laid_from}

module _ (rs : List NodeRecord) (some : 0 < length rs) where
  at_start : (v : ℕ) → v ≤ 0 → at (set rs 0 blank) v ≡ record_of [] v
  at_start zero h =
      get_or-set_same rs 0 blank blank some
      ∙ sym (ap (λ (o : Option ℕ). record { parent = 0; symbol = 0; first = o; next = None }) (newest_zero (parent_of []) 0))
  at_start (suc v) h = absurd (omega arith)

  pub start_laid : (top : ℕ) → Laid top (set rs 0 blank) 0
  start_laid top = laid_from top (set rs 0 blank) 0 [] refl (λ v used h. at_start v h)
