-- emptying slots
use Rattle.std.proofs.Common.{◌≡◌, ℕ, ◌+◌, ◌-◌, ◌*◌, ◌%◌, ◌^◌, ◌<◌, ◌≤◌, ◌⊎◌, List, length, get_or, take, drop, replicate, sym, ap, ◌∙◌, inl, inr, length-drop, arith}
use native.Mathlib.Nat.{zero-div}
use borrow.Rule.Slice.PartMut.{put_mid}
use Rattle.std.proofs.lemmas.List.{get_or-replicate, length-replicate, length-take-le}
use Rattle.std.proofs.lemmas.Bool.{cases_lt}
use Rattle.rules.specs.declared.step.Step.TheVariants.{By32}
use Rattle.compact_map.specs.Bytes.{byte_of}
use Rattle.compact_map.specs.Memory.{set_start}
use Rattle.compact_map.specs.Table.{Filled}
use Rattle.compact_map.proofs.Parts.{part_here, part_below, part_above}
use Rattle.compact_map.proofs.Layouts.{layout_none}
use Rattle.compact_map.proofs.Filled.{in_slot, in_place, elsewhere, where_is, slot_byte_lem, other_byte}

zero_byte : (count j : ℕ) → byte_of count 0 j ≡ 0
zero_byte count j = ap (λ (x : ℕ). x % 256) (zero-div _)

-- empty slots are the layout of no nodes
pub zero_filled : (l large start count : ℕ) (old part : List ℕ) → set_start l large + 6 * 2 ^ l ≤ 12 * large → start ≡ set_start l large → count ≡ 6 * 2 ^ l
    → start + count ≤ length old → part ≡ replicate (length (take (start + count - start) (drop start old))) 0
    → (K : ℕ → ℕ) → Filled By32 l large K 0 old (put_mid start (start + count - start) old part)
zero_filled l large start count old part fits e f inside is K k = elim (where_is l large 0 k) [
  | in_slot i j a b q ↦
      ap (λ (x : ℕ). get_or new x 0) (let p : k ≡ start + (6 * i + j) = omega arith in p) ∙ here (6 * i + j) (omega arith)
      ∙ sym (slot_byte_lem l large fits K 0 (get_or old k 0) i j k a b q ∙ ap (λ (x : ℕ). byte_of 6 x j) (layout_none l K i) ∙ zero_byte 6 j)
  | in_place v j a b c q ↦ absurd (omega arith)
  | elsewhere a b ↦ others (λ r. omega (arith, a (omega arith))) (cases_lt k start) ∙ sym (other_byte l large fits K 0 (get_or old k 0) k a b)
]
  where
    new : List ℕ
    new = put_mid start (start + count - start) old part

    room : length (take (start + count - start) (drop start old)) ≡ count
    room = length-take-le (start + count - start) (drop start old) (omega (arith, length-drop start old)) ∙ (let q : start + count - start ≡ count = omega arith in q)

    long : length part ≡ count
    long = ap length is ∙ length-replicate _ 0 ∙ room

    here : (i : ℕ) → i < count → get_or new (start + i) 0 ≡ 0
    here i h =
        part_here start (start + count - start) old part (omega arith) i (omega (arith, long)) ∙ ap (λ (x : List ℕ). get_or x i 0) is
        ∙ get_or-replicate (length (take (start + count - start) (drop start old))) i 0 0 (omega (arith, room))

    others : (start ≤ k → start + count ≤ k) → (k < start) ⊎ (start ≤ k) → get_or new k 0 ≡ get_or old k 0
    others h (inl p) = part_below start (start + count - start) old part (omega arith) k p
    others h (inr p) = part_above start (start + count - start) old part (omega arith) k (omega (arith, long)) (omega (arith, h p))
