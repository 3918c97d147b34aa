-- a layout is a table that can be searched: by induction over the nodes
use Rattle.std.proofs.Common.{◌≡◌, ℕ, zero, suc, ◌+◌, ◌*◌, ◌^◌, ◌<◌, ◌≤◌, cond, eqb, ◌⊎◌, sym, refl, ap, ◌∙◌, subst, ap₂, inl, inr, arith, pow_mono, pow-add}
use Rattle.std.proofs.lemmas.Bool.{cases_eq, eq-eqb, ne_eqb, cond-true, cond-false}
use Rattle.rules.specs.declared.step.Step.TheVariants.{By32}
use Rattle.compact_map.specs.Hash.{home_of, quotient_of}
use Rattle.compact_map.specs.Layout.{onward, displacement_for, slot_for, word_for, layout, place_of}
use Rattle.compact_map.specs.Table.{Taken, First, key_at, Keys}
use Rattle.compact_map.proofs.Fields.{unpacked}
use Rattle.compact_map.proofs.HeldKeys.{home_lt, quotient_lt}
use Rattle.compact_map.proofs.Seek.{seek_first, slot_same, word_same}
use Rattle.compact_map.proofs.Tables.{TableFacts, empty_facts, not_full}
use Rattle.compact_map.proofs.Insert.{SetInto, Grown, grown}

pub layout_here : (l : ℕ) (K : ℕ → ℕ) (n i : ℕ) → i ≡ slot_for By32 l (layout By32 l K n) (K (suc n))
    → layout By32 l K (suc n) i ≡ word_for By32 l (layout By32 l K n) (suc n) (K (suc n))
unfolding layout
layout_here l K n i e = cond-true (eqb i (slot_for By32 l (layout By32 l K n) (K (suc n)))) _ _ (eq-eqb i (slot_for By32 l (layout By32 l K n) (K (suc n))) e)

pub layout_else : (l : ℕ) (K : ℕ → ℕ) (n i : ℕ) → (i ≡ slot_for By32 l (layout By32 l K n) (K (suc n)) → ⊥) → layout By32 l K (suc n) i ≡ layout By32 l K n i
unfolding layout
layout_else l K n i e = cond-false (eqb i (slot_for By32 l (layout By32 l K n) (K (suc n)))) _ _ (ne_eqb i (slot_for By32 l (layout By32 l K n) (K (suc n))) e)

pub layout_none : (l : ℕ) (K : ℕ → ℕ) (i : ℕ) → layout By32 l K 0 i ≡ 0
unfolding layout
layout_none l K i = refl

pub place_is : (l : ℕ) (K : ℕ → ℕ) (n : ℕ) → place_of By32 l K (suc n) ≡ slot_for By32 l (layout By32 l K n) (K (suc n))
unfolding place_of
place_is l K n = refl

-- the slots and the places are the layout of the nodes 1 to n
pub record LaidOut (l : ℕ) (S A K : ℕ → ℕ) (n : ℕ) : Type 0 where
  pub slots : (i : ℕ) → i < 2 ^ l → S i ≡ layout By32 l K n i
  pub places : (v : ℕ) → 0 < v → v ≤ n → A v ≡ place_of By32 l K v

-- a layout of n nodes has their keys, and each slot has six bytes
pub record Standing (l : ℕ) (K : ℕ → ℕ) (n : ℕ) : Type 0 where
  pub facts : TableFacts l (layout By32 l K n) (place_of By32 l K) (n + 1)
  pub keys : (v : ℕ) → 0 < v → v ≤ n → key_at By32 l (layout By32 l K n) (place_of By32 l K v) ≡ K v
  pub short : (i : ℕ) → layout By32 l K n i < 2 ^ 48

key_fits : (l : ℕ) (K : ℕ → ℕ) (n v : ℕ) → n < 2 ^ l → Keys By32 K n → 0 < v → v ≤ n → K v < 2 ^ (13 + l)
key_fits l K n v h k z b = let e : 2 ^ (13 + l) ≡ 2 ^ 13 * 2 ^ l = pow-add 2 13 l in omega (arith, k.down v z b)

pub keys_below : (K : ℕ → ℕ) (n k : ℕ) → k ≤ n → Keys By32 K n → Keys By32 K k
keys_below K n k h g = record { apart = λ u v a b c d. g.apart u v a b (omega arith) (omega arith); down = λ v a b. g.down v a (omega arith) }

-- some slot is empty while there are fewer nodes than slots
pub some_empty : (l : ℕ) (K : ℕ → ℕ) (n home : ℕ) → Standing l K n → n < 2 ^ l → home < 2 ^ l → ((j : ℕ) → j < 2 ^ l → Taken (layout By32 l K n (onward (2 ^ l) home j))) → ⊥
some_empty l K n home s h b = not_full l (layout By32 l K n) (place_of By32 l K) (n + 1) home s.facts (omega arith) (omega arith) b

-- one node more
next : (l : ℕ) (K : ℕ → ℕ) (n : ℕ) → l ≤ 15 → suc n < 2 ^ l → Keys By32 K (suc n) → Standing l K n → Standing l K (suc n)
next l K n small h k was = record {
  facts = subst (TableFacts l (layout By32 l K (suc n)) (place_of By32 l K)) (let e : n + 1 + 1 ≡ suc n + 1 = omega arith in e) g.facts;
  keys = keys;
  short = λ i. short i (cases_eq i (slot_for By32 l (layout By32 l K n) key));
}
  where
    key : ℕ
    key = K (suc n)

    room : 2 ^ l ≤ 2 ^ 15
    room = pow_mono small

    first : First (2 ^ l) (layout By32 l K n) (home_of By32 l key) (displacement_for By32 l (layout By32 l K n) key)
    first = seek_first (2 ^ l) (layout By32 l K n) (home_of By32 l key) (some_empty l K n (home_of By32 l key) was (omega arith) (home_lt l key))

    set : SetInto (2 ^ l) (layout By32 l K n) (layout By32 l K (suc n)) (place_of By32 l K) (place_of By32 l K) (slot_for By32 l (layout By32 l K n) key) (n + 1)
        (word_for By32 l (layout By32 l K n) (n + 1) key)
    set = record {
      slot_new = layout_here l K n (slot_for By32 l (layout By32 l K n) key) refl ∙ ap (λ (v : ℕ). word_for By32 l (layout By32 l K n) v key) (let e : suc n ≡ n + 1 = omega arith in e);
      slot_old = λ i b e. layout_else l K n i e;
      place_new = ap (place_of By32 l K) (let e : n + 1 ≡ suc n = omega arith in e) ∙ place_is l K n;
      place_old = λ u b. refl;
    }

    g : Grown l (layout By32 l K n) (layout By32 l K (suc n)) (place_of By32 l K) (place_of By32 l K) (n + 1) key
    g = grown l (layout By32 l K n) (layout By32 l K (suc n)) (place_of By32 l K) (place_of By32 l K) (n + 1) key (displacement_for By32 l (layout By32 l K n) key) small
        (key_fits l K (suc n) (suc n) h k (omega arith) (omega arith)) (omega arith) (let p : 2 ^ l ≤ 2 ^ 15 = room in omega arith) was.facts first set

    keys : (v : ℕ) → 0 < v → v ≤ suc n → key_at By32 l (layout By32 l K (suc n)) (place_of By32 l K v) ≡ K v
    keys v a b = elim (cases_eq v (suc n)) [
      | inl e ↦ subst (λ (x : ℕ). key_at By32 l (layout By32 l K (suc n)) (place_of By32 l K x) ≡ K x) (let f : n + 1 ≡ v = omega arith in f)
          (g.new ∙ ap K (let f : suc n ≡ n + 1 = omega arith in f))
      | inr e ↦ g.old v a (omega arith) ∙ was.keys v a (omega arith)
    ]

    short : (i : ℕ) → (i ≡ slot_for By32 l (layout By32 l K n) key) ⊎ (i ≡ slot_for By32 l (layout By32 l K n) key → ⊥) → layout By32 l K (suc n) i < 2 ^ 48
    short i (inl e) =
        subst (λ (x : ℕ). x < 2 ^ 48) (sym (layout_here l K n i e))
        (unpacked (quotient_of By32 l key) (displacement_for By32 l (layout By32 l K n) key) (suc n) (quotient_lt l key)
        (let p : 2 ^ l ≤ 2 ^ 15 = room in let near : displacement_for By32 l (layout By32 l K n) key < 2 ^ l = first.near in omega arith)
        (let p : 2 ^ l ≤ 2 ^ 15 = room in omega arith)).short
    short i (inr e) = subst (λ (x : ℕ). x < 2 ^ 48) (sym (layout_else l K n i e)) (was.short i)

pub stands : (l : ℕ) (K : ℕ → ℕ) (n : ℕ) → l ≤ 15 → n < 2 ^ l → Keys By32 K n → Standing l K n
stands l K zero small h k = record {
  facts = empty_facts l (layout By32 l K 0) (place_of By32 l K) (λ i b. layout_none l K i);
  keys = λ v a b. absurd (omega arith);
  short = λ i. subst (λ (x : ℕ). x < 2 ^ 48) (sym (layout_none l K i)) (omega arith);
}
stands l K (suc n) small h k = next l K n small h k (stands l K n small (omega arith) (keys_below K (suc n) n (omega arith) k))

-- a layout is a matter of the keys of its nodes alone
pub layout_same : (l : ℕ) (K L : ℕ → ℕ) (n i : ℕ) → ((v : ℕ) → 0 < v → v ≤ n → K v ≡ L v) → layout By32 l K n i ≡ layout By32 l L n i
unfolding layout
layout_same l K L zero i e = refl
layout_same l K L (suc n) i e =
    ap₂ (λ (x y : ℕ). cond (eqb i (slot_for By32 l (layout By32 l K n) x)) (word_for By32 l (layout By32 l K n) (suc n) x) y) (e (suc n) (omega arith) (omega arith))
    (layout_same l K L n i (λ v a b. e v a (omega arith)))
    ∙ ap₂ (λ (x y : ℕ). cond (eqb i x) y (layout By32 l L n i))
    (slot_same l (layout By32 l K n) (layout By32 l L n) (L (suc n)) (λ j b. layout_same l K L n j (λ v a c. e v a (omega arith))))
    (word_same l (layout By32 l K n) (layout By32 l L n) (suc n) (L (suc n)) (λ j b. layout_same l K L n j (λ v a c. e v a (omega arith))))

pub place_same : (l : ℕ) (K L : ℕ → ℕ) (v : ℕ) → ((u : ℕ) → 0 < u → u ≤ v → K u ≡ L u) → place_of By32 l K v ≡ place_of By32 l L v
unfolding place_of
place_same l K L zero e = refl
place_same l K L (suc n) e =
    ap (slot_for By32 l (layout By32 l K n)) (e (suc n) (omega arith) (omega arith))
    ∙ slot_same l (layout By32 l K n) (layout By32 l L n) (L (suc n)) (λ j b. layout_same l K L n j (λ u a c. e u a (omega arith)))
