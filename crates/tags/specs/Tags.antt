-- a tag is a sorter's name, of 1 to 200 bytes, each from 1 to 254
use Rattle.std.specs.Prelude.{◌≡◌, ℕ, ◌+◌, ◌-◌, Bool, false, cond, ◌||◌, List, [], ◌∷◌, ◌++◌, length, replicate, is_some, Some, None, Ok, Err, Option, Result, ◌==◌, nat_lt}
use Rattle.tags.specs.declared.refusal.Refusal.{Refusal}
use Rattle.tags.specs.declared.refusal.Refusal.TheVariants.{EmptyTag, LongTag, BadByte}

-- whether a byte is not from 1 to 254
abbrev pub is_bad : ℕ → Bool
is_bad b = b == 0 || nat_lt 254 b

abbrev pub any_bad : List ℕ → Bool
any_bad [] = false
any_bad (b ∷ bytes) = is_bad b || any_bad bytes

-- why bytes are no tag, the smallest number first
abbrev pub tag_refusal : List ℕ → Option Refusal
tag_refusal bytes =
    cond (length bytes == 0) (Some EmptyTag)
    (cond (nat_lt 200 (length bytes)) (Some LongTag)
    (cond (any_bad bytes) (Some BadByte) None))

-- what a check of bytes answers
abbrev pub checked : List ℕ → Result (Unit {0}) Refusal
checked bytes = elim (tag_refusal bytes) [ None ↦ Ok tt | Some why ↦ Err why ]

-- the tag that bytes are; bytes that are none give the tag "?"
abbrev pub tag_of : List ℕ → List ℕ
tag_of bytes = elim (tag_refusal bytes) [ None ↦ bytes | Some why ↦ 63 ∷ [] ]

abbrev pub WellFormed : List ℕ → Type 0
WellFormed bytes = is_some (tag_refusal bytes) ≡ false

-- the spelled form: the tag and then one closing byte 0
unfoldable pub spelled : List ℕ → List ℕ
spelled tag = tag ++ (0 ∷ [])

-- the spelled form at the beginning of 201 bytes, with 0 behind it
abbrev pub padded : List ℕ → List ℕ
padded tag = spelled tag ++ replicate (200 - length tag) 0

-- bytes are a tag, and its spelled form is the first n bytes of these
abbrev pub SpelledFrom : List ℕ → List ℕ → ℕ → Type 0
SpelledFrom bytes form n = (tag_refusal bytes ≡ None) × (form ≡ padded bytes) × (n ≡ length bytes + 1)
