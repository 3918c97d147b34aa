-- the bytes of a tag's spelled form
use Rattle.std.proofs.Common.{◌≡◌, ℕ, ◌+◌, ◌≤◌, List, ◌++◌, length, take, is_some, None, ap, ◌∙◌, arith}
use lib.Seq.{take-append_seam}
use Rattle.tags.specs.Tags.{tag_refusal, WellFormed, spelled}
use Rattle.tags.proofs.Forms.{few_bytes, length_spelled}

pub formed : (tag : List ℕ) → tag_refusal tag ≡ None → WellFormed tag
formed tag e = ap is_some e

-- the spelled form has at most 201 bytes
pub form_short : (tag w : List ℕ) → tag_refusal tag ≡ None → w ≡ spelled tag → length w ≤ 201
form_short tag w fine is = omega (arith, few_bytes tag (formed tag fine), length_spelled tag, ap length is)

-- what is read of the tag that bytes are, which holds these bytes: it is one, and its form
pub read : (tag held bytes rest : List ℕ) (n : ℕ) → (tag_refusal tag ≡ None) × (held ≡ tag) → bytes ≡ spelled held ++ rest → n ≡ length held + 1
    → (tag_refusal tag ≡ None) × (take n bytes ≡ spelled tag)
read tag held bytes rest n fine is long =
    let k : n ≡ length (spelled held) = omega (arith, length_spelled held) in
    (fine.0, rw (is, k) (take-append_seam (spelled held) rest) ∙ ap spelled fine.1)
