-- setting a node: what the two writes leave
use Rattle.std.proofs.Common.{◌≡◌, ℕ, ◌+◌, ◌*◌, ◌%◌, ◌^◌, ◌<◌, ◌≤◌, List, get_or, sym, ap, ◌∙◌, subst, ap₂, inl, inr, mod-lt, arith, pow_pos}
use Rattle.std.proofs.lemmas.Bool.{cases_lt}
use Rattle.rules.specs.declared.step.Step.TheVariants.{By32}
use Rattle.compact_map.specs.Bytes.{byte_of, Written}
use Rattle.compact_map.specs.Hash.{home_of, quotient_of}
use Rattle.compact_map.specs.Slots.{packed}
use Rattle.compact_map.specs.Layout.{displacement_for, slot_for, word_for}
use Rattle.compact_map.specs.Memory.{set_start}
use Rattle.compact_map.specs.Table.{slot_at, Vacant, First, Placed}
use Rattle.compact_map.proofs.Seek.{seek_first, first_one}

-- the same slots by their number and their beginning
pub vacant_as : (bs : List ℕ) (l slots start first home key : ℕ) → slots ≡ 2 ^ l → start ≡ first → home ≡ home_of By32 l key
    → Vacant (2 ^ l) (slot_at bs first) (home_of By32 l key) → Vacant slots (slot_at bs start) home
vacant_as bs l slots start first home key a b e v =
    subst (λ (x : ℕ). Vacant x (slot_at bs start) home) (sym a)
    (subst (λ (x : ℕ). Vacant (2 ^ l) (slot_at bs x) home) (sym b) (subst (λ (x : ℕ). Vacant (2 ^ l) (slot_at bs first) x) (sym e) v))

-- the slot that was found is the layout's
module _ (l large slots start v key home quotient d w : ℕ) (old mid new : List ℕ) (wide : slots ≡ 2 ^ l) (begins : start ≡ set_start l large)
    (eh : home ≡ home_of By32 l key) (eq : quotient ≡ quotient_of By32 l key) (vacant : Vacant (2 ^ l) (slot_at old (set_start l large)) (home_of By32 l key))
    (found : First slots (slot_at old start) home d) (ew : w ≡ packed quotient d v)
    (first : Written 6 old mid (start + 6 * ((home + d) % slots)) w) (then : Written 2 mid new (12 * large + 2 * v) ((home + d) % slots))
    (fits : start + 6 * slots ≤ 12 * large) where
  abbrev S : ℕ → ℕ
  S = slot_at old (set_start l large)

  abbrev s : ℕ
  s = slot_for By32 l S key

  far : d ≡ displacement_for By32 l S key
  far =
      first_one (2 ^ l) S (home_of By32 l key) d (displacement_for By32 l S key)
      (subst (λ (x : ℕ). First x S (home_of By32 l key) d) wide
      (subst (λ (x : ℕ). First slots (slot_at old x) (home_of By32 l key) d) begins (subst (λ (x : ℕ). First slots (slot_at old start) x d) eh found)))
      (seek_first (2 ^ l) S (home_of By32 l key) vacant)

  at_is : (home + d) % slots ≡ s
  at_is = ap₂ (λ (x y : ℕ). x % y) (ap₂ (λ (x y : ℕ). x + y) eh far) wide

  word_is : w ≡ word_for By32 l S v key
  word_is = ew ∙ ap₂ (λ (x y : ℕ). packed x y v) eq far

  s_lt : s < slots
  s_lt = subst (λ (x : ℕ). s < x) (sym wide) (mod-lt _ (pow_pos l))

  here : start + 6 * ((home + d) % slots) ≡ set_start l large + 6 * s
  here = ap₂ (λ (x y : ℕ). x + 6 * y) begins at_is

  pub placed : Placed By32 l large v key old new
  placed = record {
    slot = λ j b.
        then.below (set_start l large + 6 * s + j) (omega (arith, s_lt))
        ∙ subst (λ (x : ℕ). get_or mid (x + j) 0 ≡ byte_of 6 w j) here (first.here j b) ∙ ap (λ (x : ℕ). byte_of 6 x j) word_is;
    place = λ j b. then.here j b ∙ ap (λ (x : ℕ). byte_of 2 x j) at_is;
    others = λ k a b. second k b ∙ elim (cases_lt k (set_start l large + 6 * s)) [
      | inl c ↦ first.below k (omega (arith, here))
      | inr c ↦ first.above k (omega (arith, here, a c))
    ];
  }
    where
      second : (k : ℕ) → (12 * large + 2 * v ≤ k → 12 * large + 2 * v + 2 ≤ k) → get_or new k 0 ≡ get_or mid k 0
      second k b = elim (cases_lt k (12 * large + 2 * v)) [ inl c ↦ then.below k c | inr c ↦ then.above k (b c) ]
