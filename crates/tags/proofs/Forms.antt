-- what a well-formed tag has
use Rattle.std.proofs.Common.{◌≡◌, ℕ, ◌+◌, ◌<◌, ◌≤◌, Bool, true, false, cond, eqb, ltb, List, [], ◌∷◌, length, is_some, Some, None, Option, refl, arith, length-append}
use Rattle.std.proofs.lemmas.Bool.{both_ways, eqb-false, ltb-false}
use Rattle.tags.specs.declared.refusal.Refusal.TheVariants.{EmptyTag, LongTag, BadByte}
use Rattle.tags.specs.Tags.{any_bad, WellFormed, spelled}

pub record Parts (tag : List ℕ) : Type 0 where
  pub some : 0 < length tag
  pub few : length tag ≤ 200
  pub fine : any_bad tag ≡ false

-- of nested tests that end in nothing, each failed
passed : {A : Type 0} (t : Bool) (x : A) (o : Option A) → is_some (cond t (Some x) o) ≡ false → (t ≡ false) × (is_some o ≡ false)
passed true x o e = absurd (both_ways true e refl)
passed false x o e = (refl, e)

pub parts_of : (tag : List ℕ) → WellFormed tag → Parts tag
parts_of tag e =
    let p = passed (eqb (length tag) 0) EmptyTag _ e in
    let q = passed (ltb 200 (length tag)) LongTag _ p.1 in
    let r = passed (any_bad tag) BadByte None q.1 in
    let n : length tag ≡ 0 → ⊥ = eqb-false (length tag) 0 p.0 in
    record { some = omega arith; few = ltb-false 200 (length tag) q.0; fine = r.0 }

pub few_bytes : (tag : List ℕ) → WellFormed tag → length tag ≤ 200
few_bytes tag e = (parts_of tag e).few

pub length_spelled : (tag : List ℕ) → length (spelled tag) ≡ length tag + 1
unfolding spelled
length_spelled tag = length-append tag (0 ∷ [])
