-- what holds of a table of 2 ^ l slots that is the layout of nodes
use Rattle.std.proofs.Common.{◌≡◌, ℕ, ◌+◌, ◌-◌, ◌*◌, ◌^◌, ◌<◌, ◌≤◌, sym, ap, ◌∙◌, subst, ap₂, mod-lt, arith, pow_pos}
use Rattle.rules.specs.declared.step.Step.TheVariants.{By32}
use Rattle.compact_map.specs.Slots.{quotient_in, displacement_in, number_in}
use Rattle.compact_map.specs.Hash.{unhash}
use Rattle.compact_map.specs.Layout.{onward}
use Rattle.compact_map.specs.Table.{Taken, homeward, Full, key_at}
use Rattle.compact_map.proofs.Rounds.{onward_apart}
use Rattle.compact_map.proofs.Pigeon.{pigeon, Apart}

-- S i is what slot i holds, and A v is the slot of node v
pub record TableFacts (l : ℕ) (S A : ℕ → ℕ) (count : ℕ) : Type 0 where
  pub full : Full (2 ^ l) S
  -- what lies in a slot is a node, whose place is that slot
  pub low : (i : ℕ) → i < 2 ^ l → Taken (S i) → 0 < number_in (S i)
  pub high : (i : ℕ) → i < 2 ^ l → Taken (S i) → number_in (S i) < count
  pub named : (i : ℕ) → i < 2 ^ l → Taken (S i) → A (number_in (S i)) ≡ i
  -- each node lies in its place
  pub inside : (v : ℕ) → 0 < v → v < count → A v < 2 ^ l
  pub taken : (v : ℕ) → 0 < v → v < count → Taken (S (A v))

pub empty_facts : (l : ℕ) (S A : ℕ → ℕ) → ((i : ℕ) → i < 2 ^ l → S i ≡ 0) → TableFacts l S A 1
empty_facts l S A z = record {
  full = record { short = λ i h t. absurd (none i h t); way = λ i h t. absurd (none i h t) };
  low = λ i h t. absurd (none i h t);
  high = λ i h t. absurd (none i h t);
  named = λ i h t. absurd (none i h t);
  inside = λ v p h. absurd (omega arith);
  taken = λ v p h. absurd (omega arith);
}
  where
    none : (i : ℕ) → i < 2 ^ l → Taken (S i) → ⊥
    none i h t = let e : S i ≡ 0 = z i h in omega arith

-- slots and places that are as others are
module _ (l : ℕ) (S S' A A' : ℕ → ℕ) (count : ℕ) (es : (i : ℕ) → i < 2 ^ l → S' i ≡ S i) (ea : (v : ℕ) → 0 < v → v < count → A' v ≡ A v) (was : TableFacts l S A count) where
  each : (P : ℕ → ℕ → Type 0) → ((i : ℕ) → i < 2 ^ l → Taken (S i) → P i (S i)) → (i : ℕ) → i < 2 ^ l → Taken (S' i) → P i (S' i)
  each P there i h t = subst (P i) (sym (es i h)) (there i h (subst Taken (es i h) t))

  at : (v : ℕ) → 0 < v → v < count → S' (A' v) ≡ S (A v)
  at v z h = ap S' (ea v z h) ∙ es (A v) (was.inside v z h)

  pub same_key : (v : ℕ) → 0 < v → v < count → key_at By32 l S' (A' v) ≡ key_at By32 l S (A v)
  same_key v z h =
      ap₂ (λ (w i : ℕ). unhash (13 + l) (quotient_in w * 2 ^ l + homeward (2 ^ l) i (displacement_in w))) (at v z h) (ea v z h)

  pub same_facts : TableFacts l S' A' count
  same_facts = record {
    full = record {
      short = each (λ i w. displacement_in w < 2 ^ l) was.full.short;
      way = each (λ i w. (j : ℕ) → j < displacement_in w → Taken (S' (onward (2 ^ l) (homeward (2 ^ l) i (displacement_in w)) j)))
          (λ i h t j k. subst Taken (sym (es (onward (2 ^ l) (homeward (2 ^ l) i (displacement_in (S i))) j) (mod-lt (homeward (2 ^ l) i (displacement_in (S i)) + j) (pow_pos l))))
          (was.full.way i h t j k));
    };
    low = each (λ i w. 0 < number_in w) was.low;
    high = each (λ i w. number_in w < count) was.high;
    named = each (λ i w. A' (number_in w) ≡ i) (λ i h t. ea (number_in (S i)) (was.low i h t) (was.high i h t) ∙ was.named i h t);
    inside = λ v z h. subst (λ (x : ℕ). x < 2 ^ l) (sym (ea v z h)) (was.inside v z h);
    taken = λ v z h. subst Taken (sym (at v z h)) (was.taken v z h);
  }

-- while there are fewer nodes than slots, some slot is empty
pub not_full : (l : ℕ) (S A : ℕ → ℕ) (count home : ℕ) → TableFacts l S A count → 0 < count → count ≤ 2 ^ l → home < 2 ^ l
    → ((j : ℕ) → j < 2 ^ l → Taken (S (onward (2 ^ l) home j))) → ⊥
not_full l S A count home s some room h full =
    let p : 2 ^ l ≤ count - 1 = pigeon (count - 1) (2 ^ l) f below apart in omega arith
  where
    inn : (j : ℕ) → onward (2 ^ l) home j < 2 ^ l
    inn j = mod-lt (home + j) (pow_pos l)

    f : ℕ → ℕ
    f j = number_in (S (onward (2 ^ l) home j)) - 1

    below : (j : ℕ) → j < 2 ^ l → f j < count - 1
    below j k = omega (arith, s.low (onward (2 ^ l) home j) (inn j) (full j k), s.high (onward (2 ^ l) home j) (inn j) (full j k))

    apart : Apart (2 ^ l) f
    apart i j hi hj e =
        onward_apart (2 ^ l) home h i j hi hj
        (sym (s.named (onward (2 ^ l) home i) (inn i) (full i hi))
        ∙ ap A (let q : number_in (S (onward (2 ^ l) home i)) ≡ number_in (S (onward (2 ^ l) home j))
        = omega (arith, s.low (onward (2 ^ l) home i) (inn i) (full i hi), s.low (onward (2 ^ l) home j) (inn j) (full j hj)) in q)
        ∙ s.named (onward (2 ^ l) home j) (inn j) (full j hj))
