-- the bytes of a layout, case by case
use Rattle.std.proofs.Common.{◌≡◌, ℕ, suc, ◌+◌, ◌-◌, ◌*◌, ◌/◌, ◌%◌, ◌^◌, ◌<◌, ◌≤◌, true, false, ltb, ◌⊎◌, List, get_or, sym, refl, ap, ◌∙◌, ap₂, inl, inr, mod-lt, arith, pow_pos, pow_mono}
use Rattle.std.proofs.lemmas.Bool.{cases_eq, cases_lt, lt-ltb, le-ltb, cond-true, cond-false}
use Rattle.rules.specs.declared.step.Step.TheVariants.{By32}
use Rattle.compact_map.specs.Bytes.{byte_of}
use Rattle.compact_map.specs.Layout.{layout, place_of, slot_for, word_for}
use Rattle.compact_map.specs.Memory.{set_start, within, laid_byte}
use Rattle.compact_map.specs.Table.{slot_at, place_at, Keys, Filled, Placed}
use Rattle.compact_map.proofs.Numbers.{read_back}
use Rattle.compact_map.proofs.Seek.{slot_same, word_same}
use Rattle.compact_map.proofs.Layouts.{LaidOut, layout_here, layout_else, place_is, layout_same, place_same, stands}

within_yes : (first count k : ℕ) → first ≤ k → k < first + count → within first count k ≡ true
within_yes first count k a b = cond-false (ltb k first) false (ltb k (first + count)) (le-ltb k first a) ∙ lt-ltb k (first + count) b

within_no : (first count k : ℕ) → (first ≤ k → first + count ≤ k) → within first count k ≡ false
within_no first count k f = elim (cases_lt k first) [
  | inl a ↦ cond-true (ltb k first) false (ltb k (first + count)) (lt-ltb k first a)
  | inr a ↦ cond-false (ltb k first) false (ltb k (first + count)) (le-ltb k first a) ∙ le-ltb k (first + count) (f a)
]

-- what byte k belongs to
pub data Where (l large n k : ℕ) : Type 0 where
  in_slot : (i j : ℕ) → i < 2 ^ l → j < 6 → k ≡ set_start l large + 6 * i + j → Where l large n k
  in_place : (v j : ℕ) → 0 < v → v ≤ n → j < 2 → k ≡ 12 * large + 2 * v + j → Where l large n k
  elsewhere : (set_start l large ≤ k → set_start l large + 6 * 2 ^ l ≤ k) → (12 * large + 2 ≤ k → 12 * large + 2 + 2 * n ≤ k) → Where l large n k

pub where_is : (l large n k : ℕ) → Where l large n k
where_is l large n k = set (cases_lt k (set_start l large)) (cases_lt k (set_start l large + 6 * 2 ^ l)) (cases_lt k (12 * large + 2)) (cases_lt k (12 * large + 2 + 2 * n))
  where
    rest : (set_start l large ≤ k → set_start l large + 6 * 2 ^ l ≤ k) → (k < 12 * large + 2) ⊎ (12 * large + 2 ≤ k)
        → (k < 12 * large + 2 + 2 * n) ⊎ (12 * large + 2 + 2 * n ≤ k) → Where l large n k
    rest out (inl a) b = elsewhere out (λ h. absurd (omega arith))
    rest out (inr a) (inl b) = in_place ((k - 12 * large) / 2) ((k - 12 * large) % 2) (omega arith) (omega arith) (omega arith) (omega arith)
    rest out (inr a) (inr b) = elsewhere out (λ h. b)

    set : (k < set_start l large) ⊎ (set_start l large ≤ k) → (k < set_start l large + 6 * 2 ^ l) ⊎ (set_start l large + 6 * 2 ^ l ≤ k)
        → (k < 12 * large + 2) ⊎ (12 * large + 2 ≤ k) → (k < 12 * large + 2 + 2 * n) ⊎ (12 * large + 2 + 2 * n ≤ k) → Where l large n k
    set (inl a) b c d = rest (λ h. absurd (omega arith)) c d
    set (inr a) (inl b) c d = in_slot ((k - set_start l large) / 6) ((k - set_start l large) % 6) (omega arith) (omega arith) (omega arith)
    set (inr a) (inr b) c d = rest (λ h. b) c d

module _ (l large : ℕ) (fits : set_start l large + 6 * 2 ^ l ≤ 12 * large) (K : ℕ → ℕ) (n old : ℕ) where
  pub slot_byte_lem : (i j k : ℕ) → i < 2 ^ l → j < 6 → k ≡ set_start l large + 6 * i + j → laid_byte By32 l large K n old k ≡ byte_of 6 (layout By32 l K n i) j
  unfolding laid_byte
  slot_byte_lem i j k a b e =
      cond-true (within (set_start l large) (6 * 2 ^ l) k) _ _ (within_yes (set_start l large) (6 * 2 ^ l) k (omega arith) (omega arith))
      ∙ ap₂ (λ (x y : ℕ). byte_of 6 (layout By32 l K n x) y) (let q : (k - set_start l large) / 6 ≡ i = omega arith in q) (let q : (k - set_start l large) % 6 ≡ j = omega arith in q)

  pub place_byte_lem : (v j k : ℕ) → 0 < v → v ≤ n → j < 2 → k ≡ 12 * large + 2 * v + j → laid_byte By32 l large K n old k ≡ byte_of 2 (place_of By32 l K v) j
  unfolding laid_byte
  place_byte_lem v j k a b c e =
      cond-false (within (set_start l large) (6 * 2 ^ l) k) _ _ (within_no (set_start l large) (6 * 2 ^ l) k (λ h. omega arith))
      ∙ cond-true (within (12 * large + 2) (2 * n) k) _ _ (within_yes (12 * large + 2) (2 * n) k (omega arith) (omega arith))
      ∙ ap₂ (λ (x y : ℕ). byte_of 2 (place_of By32 l K x) y) (let q : (k - 12 * large) / 2 ≡ v = omega arith in q) (let q : (k - 12 * large) % 2 ≡ j = omega arith in q)

  pub other_byte : (k : ℕ) → (set_start l large ≤ k → set_start l large + 6 * 2 ^ l ≤ k) → (12 * large + 2 ≤ k → 12 * large + 2 + 2 * n ≤ k) → laid_byte By32 l large K n old k ≡ old
  unfolding laid_byte
  other_byte k a b =
      cond-false (within (set_start l large) (6 * 2 ^ l) k) _ _ (within_no (set_start l large) (6 * 2 ^ l) k a)
      ∙ cond-false (within (12 * large + 2) (2 * n) k) _ _ (within_no (12 * large + 2) (2 * n) k b)

module _ (l large : ℕ) (fits : set_start l large + 6 * 2 ^ l ≤ 12 * large) where
  -- a layout is a matter of the keys of its nodes alone
  pub filled_as : (K L : ℕ → ℕ) (n : ℕ) (old new : List ℕ) → ((v : ℕ) → 0 < v → v ≤ n → K v ≡ L v) → Filled By32 l large K n old new → Filled By32 l large L n old new
  filled_as K L n old new e f k = f k ∙ elim (where_is l large n k) [
    | in_slot i j a b q ↦
        slot_byte_lem l large fits K n (get_or old k 0) i j k a b q ∙ ap (λ (x : ℕ). byte_of 6 x j) (layout_same l K L n i e)
        ∙ sym (slot_byte_lem l large fits L n (get_or old k 0) i j k a b q)
    | in_place v j a b c q ↦
        place_byte_lem l large fits K n (get_or old k 0) v j k a b c q ∙ ap (λ (x : ℕ). byte_of 2 x j) (place_same l K L v (λ u p r. e u p (omega arith)))
        ∙ sym (place_byte_lem l large fits L n (get_or old k 0) v j k a b c q)
    | elsewhere a b ↦ other_byte l large fits K n (get_or old k 0) k a b ∙ sym (other_byte l large fits L n (get_or old k 0) k a b)
  ]

  -- laying the same nodes out again changes nothing
  pub filled_again : (K : ℕ → ℕ) (n : ℕ) (old new : List ℕ) → Filled By32 l large K n old new → Filled By32 l large K n new new
  filled_again K n old new f k = elim (where_is l large n k) [
    | in_slot i j a b q ↦ f k ∙ slot_byte_lem l large fits K n (get_or old k 0) i j k a b q ∙ sym (slot_byte_lem l large fits K n (get_or new k 0) i j k a b q)
    | in_place v j a b c q ↦ f k ∙ place_byte_lem l large fits K n (get_or old k 0) v j k a b c q ∙ sym (place_byte_lem l large fits K n (get_or new k 0) v j k a b c q)
    | elsewhere a b ↦ sym (other_byte l large fits K n (get_or new k 0) k a b)
  ]

  -- the slots and places that the bytes of a layout show
  pub laid_of : (K : ℕ → ℕ) (n : ℕ) (old new : List ℕ) → l ≤ 15 → n < 2 ^ l → Keys By32 K n → Filled By32 l large K n old new
      → LaidOut l (slot_at new (set_start l large)) (place_at new (12 * large)) K n
  laid_of K n old new small room keys f = record {
    slots = λ i b. read_back new (set_start l large + 6 * i) 6 (layout By32 l K n i) ((stands l K n small room keys).short i)
        (λ j c. f (set_start l large + 6 * i + j) ∙ slot_byte_lem l large fits K n (get_or old (set_start l large + 6 * i + j) 0) i j (set_start l large + 6 * i + j) b c refl);
    places = λ v a b. read_back new (12 * large + 2 * v) 2 (place_of By32 l K v)
        (let p : 2 ^ l ≤ 2 ^ 15 = pow_mono small in let q : place_of By32 l K v < 2 ^ l = (stands l K n small room keys).facts.inside v a (omega arith) in omega arith)
        (λ j c. f (12 * large + 2 * v + j) ∙ place_byte_lem l large fits K n (get_or old (12 * large + 2 * v + j) 0) v j (12 * large + 2 * v + j) a b c refl);
  }

-- one node more
module _ (l large : ℕ) (fits : set_start l large + 6 * 2 ^ l ≤ 12 * large) (K : ℕ → ℕ) (n key : ℕ) (old bs new : List ℕ)
    (is : (i : ℕ) → i < 2 ^ l → slot_at bs (set_start l large) i ≡ layout By32 l K n i) (e : key ≡ K (suc n))
    (was : Filled By32 l large K n old bs) (placed : Placed By32 l large (suc n) key bs new) where
  abbrev S : ℕ → ℕ
  S = slot_at bs (set_start l large)

  abbrev s : ℕ
  s = slot_for By32 l S key

  s_lt : s < 2 ^ l
  s_lt = mod-lt _ (pow_pos l)

  slot_is : s ≡ slot_for By32 l (layout By32 l K n) (K (suc n))
  slot_is = slot_same l S (layout By32 l K n) key is ∙ ap (slot_for By32 l (layout By32 l K n)) e

  word_is : word_for By32 l S (suc n) key ≡ word_for By32 l (layout By32 l K n) (suc n) (K (suc n))
  word_is = word_same l S (layout By32 l K n) (suc n) key is ∙ ap (word_for By32 l (layout By32 l K n) (suc n)) e

  at_slot : (i j k : ℕ) → i < 2 ^ l → j < 6 → k ≡ set_start l large + 6 * i + j → (i ≡ s) ⊎ (i ≡ s → ⊥) → get_or new k 0 ≡ byte_of 6 (layout By32 l K (suc n) i) j
  at_slot i j k a b q (inl h) =
      ap (λ (x : ℕ). get_or new x 0) (q ∙ ap (λ (x : ℕ). set_start l large + 6 * x + j) h) ∙ placed.slot j b
      ∙ ap (λ (x : ℕ). byte_of 6 x j) (word_is ∙ sym (layout_here l K n i (h ∙ slot_is)))
  at_slot i j k a b q (inr h) =
      placed.others k (λ r. apart r) (λ r. absurd (omega (arith, fits)))
      ∙ was k ∙ slot_byte_lem l large fits K n (get_or old k 0) i j k a b q
      ∙ ap (λ (x : ℕ). byte_of 6 x j) (sym (layout_else l K n i (λ p. h (p ∙ sym slot_is))))
    where
      apart : set_start l large + 6 * s ≤ k → set_start l large + 6 * s + 6 ≤ k
      apart r = elim (cases_lt s i) [ inl c ↦ omega arith | inr c ↦ absurd (h (omega arith)) ]

  at_place : (v j k : ℕ) → 0 < v → v ≤ suc n → j < 2 → k ≡ 12 * large + 2 * v + j → (v ≡ suc n) ⊎ (v ≡ suc n → ⊥) → get_or new k 0 ≡ byte_of 2 (place_of By32 l K v) j
  at_place v j k a b c q (inl h) =
      ap (λ (x : ℕ). get_or new x 0) (q ∙ ap (λ (x : ℕ). 12 * large + 2 * x + j) h) ∙ placed.place j c
      ∙ ap (λ (x : ℕ). byte_of 2 x j) (slot_is ∙ sym (place_is l K n) ∙ ap (place_of By32 l K) (sym h))
  at_place v j k a b c q (inr h) =
      placed.others k (λ r. omega (arith, s_lt, fits)) (λ r. absurd (omega arith))
      ∙ was k ∙ place_byte_lem l large fits K n (get_or old k 0) v j k a (omega arith) c q

  pub filled_more : Filled By32 l large K (suc n) old new
  filled_more k = elim (where_is l large (suc n) k) [
    | in_slot i j a b q ↦ at_slot i j k a b q (cases_eq i s) ∙ sym (slot_byte_lem l large fits K (suc n) (get_or old k 0) i j k a b q)
    | in_place v j a b c q ↦ at_place v j k a b c q (cases_eq v (suc n)) ∙ sym (place_byte_lem l large fits K (suc n) (get_or old k 0) v j k a b c q)
    | elsewhere a b ↦
        placed.others k (λ r. omega (arith, s_lt, a (omega arith))) (λ r. omega (arith, b (omega arith)))
        ∙ was k ∙ other_byte l large fits K n (get_or old k 0) k a (λ r. omega (arith, b r))
        ∙ sym (other_byte l large fits K (suc n) (get_or old k 0) k a b)
  ]
