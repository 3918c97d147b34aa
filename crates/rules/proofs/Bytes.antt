-- the bytes of a well-formed tag
use Rattle.std.proofs.Common.{◌≡◌, ℕ, zero, suc, ◌<◌, false, eqb, ltb, List, [], ◌∷◌, get_or, arith}
use Rattle.std.proofs.lemmas.Bool.{eqb-false, ltb-false, or_parts}
use Rattle.tags.specs.Tags.{is_bad, any_bad, WellFormed, spelled}
use Rattle.tags.proofs.Forms.{parts_of}

-- each byte is from 1 to 254
abbrev pub Bytes : List ℕ → Type 0
Bytes [] = Unit {0}
Bytes (b ∷ tag) = (0 < b) × (b < 255) × Bytes tag

fine_bytes : (tag : List ℕ) → any_bad tag ≡ false → Bytes tag
fine_bytes [] h = tt
fine_bytes (b ∷ tag) h =
    let p = or_parts (is_bad b) (any_bad tag) h in
    let q = or_parts (eqb b 0) (ltb 254 b) p.0 in
    let z = ltb-false 254 b q.1 in
    let n = eqb-false b 0 q.0 in
    (omega arith, omega arith, fine_bytes tag p.1)

pub bytes_of : (tag : List ℕ) → WellFormed tag → Bytes tag
bytes_of tag e = fine_bytes tag (parts_of tag e).fine

pub byte_below : (tag : List ℕ) → Bytes tag → (i : ℕ) → get_or (spelled tag) i 0 < 255
unfolding spelled
byte_below [] b zero = omega arith
byte_below [] b (suc i) = omega arith
byte_below (a ∷ tag) b zero = b.1
byte_below (a ∷ tag) b (suc i) = byte_below tag b.2 i
