-- what is read from a layout
use Rattle.std.proofs.Common.{◌≡◌, ℕ, suc, ◌+◌, ◌*◌, ◌/◌, ◌^◌, ◌<◌, ◌≤◌, cond, eqb, ◌⊎◌, List, sym, refl, ap, ◌∙◌, subst, inl, inr, mod-lt, arith, pow_pos}
use Rattle.std.proofs.lemmas.Bool.{cases_eq, eq-eqb, ne_eqb, cond-true, cond-false}
use Rattle.rules.specs.declared.step.Step.TheVariants.{By32}
use Rattle.compact_map.specs.Layout.{onward, layout, place_of}
use Rattle.compact_map.specs.Memory.{set_start}
use Rattle.compact_map.specs.Table.{slot_at, place_at, Taken, Vacant, Keys, read_key, key_in, Filled, Stored}
use Rattle.compact_map.proofs.Tables.{TableFacts, same_key, same_facts}
use Rattle.compact_map.proofs.Layouts.{LaidOut, stands, some_empty}
use Rattle.compact_map.proofs.Filled.{laid_of, filled_as, filled_again}

module _ (l : ℕ) (S A K : ℕ → ℕ) (n : ℕ) (small : l ≤ 15) (room : n < 2 ^ l) (keys : Keys By32 K n) (laid : LaidOut l S A K n) where
  pub laid_facts : TableFacts l S A (n + 1)
  laid_facts = same_facts l (layout By32 l K n) S (place_of By32 l K) A (n + 1) laid.slots (λ v a b. laid.places v a (omega arith)) (stands l K n small room keys).facts

  read_is : (v : ℕ) → 0 < v → v ≤ n → read_key By32 l S A v ≡ K v
  read_is v a b =
      same_key l (layout By32 l K n) S (place_of By32 l K) A (n + 1) laid.slots (λ u p q. laid.places u p (omega arith)) (stands l K n small room keys).facts v a (omega arith)
      ∙ (stands l K n small room keys).keys v a b

  pub laid_vacant : (home : ℕ) → home < 2 ^ l → Vacant (2 ^ l) S home
  laid_vacant home h full =
      some_empty l K n home (stands l K n small room keys) room h (λ j b. subst Taken (laid.slots (onward (2 ^ l) home j) (mod-lt (home + j) (pow_pos l))) (full j b))

keys_as : (K L : ℕ → ℕ) (n : ℕ) → ((v : ℕ) → 0 < v → v ≤ n → K v ≡ L v) → Keys By32 K n → Keys By32 L n
keys_as K L n e k = record {
  apart = λ u v a b c d f. k.apart u v a b c d (e u a c ∙ f ∙ sym (e v b d));
  down = λ v a b. subst (λ (x : ℕ). x / 8192 < v) (e v a b) (k.down v a b);
}

-- the bytes of a layout show its keys
module _ (l large : ℕ) (fits : set_start l large + 6 * 2 ^ l ≤ 12 * large) (K : ℕ → ℕ) (n : ℕ) (old new : List ℕ) (small : l ≤ 15) (room : n < 2 ^ l) (keys : Keys By32 K n)
    (filled : Filled By32 l large K n old new) where
  pub shown : (v : ℕ) → 0 < v → v ≤ n → key_in By32 new l large v ≡ K v
  shown v a b = read_is l (slot_at new (set_start l large)) (place_at new (12 * large)) K n small room keys (laid_of l large fits K n old new small room keys filled) v a b

  pub stored : Stored By32 l large n new
  stored = record {
    keys = keys_as K (key_in By32 new l large) n (λ v a b. sym (shown v a b)) keys;
    filled = filled_as l large fits K (key_in By32 new l large) n new new (λ v a b. sym (shown v a b)) (filled_again l large fits K n old new filled);
  }

-- the keys with that of one node more
abbrev pub with_key : (ℕ → ℕ) → ℕ → ℕ → ℕ → ℕ
with_key K n key v = cond (eqb v (suc n)) key (K v)

module _ (K : ℕ → ℕ) (n key : ℕ) where
  pub with_new : with_key K n key (suc n) ≡ key
  with_new = cond-true (eqb (suc n) (suc n)) key (K (suc n)) (eq-eqb (suc n) (suc n) refl)

  pub with_old : (v : ℕ) → v ≤ n → with_key K n key v ≡ K v
  with_old v b = cond-false (eqb v (suc n)) key (K v) (ne_eqb v (suc n) (λ e. omega arith))

  pub keys_more : Keys By32 K n → key / 8192 < suc n → ((v : ℕ) → 0 < v → v ≤ n → K v ≡ key → ⊥) → Keys By32 (with_key K n key) (suc n)
  keys_more k parent fresh = record {
    apart = λ u v a b c d e. pick u v a b c d e (cases_eq u (suc n)) (cases_eq v (suc n));
    down = λ v a b. low v a b (cases_eq v (suc n));
  }
    where
      at_new : (v : ℕ) → v ≡ suc n → with_key K n key v ≡ key
      at_new v e = ap (with_key K n key) e ∙ with_new

      pick : (u v : ℕ) → 0 < u → 0 < v → u ≤ suc n → v ≤ suc n → with_key K n key u ≡ with_key K n key v
          → (u ≡ suc n) ⊎ (u ≡ suc n → ⊥) → (v ≡ suc n) ⊎ (v ≡ suc n → ⊥) → u ≡ v
      pick u v a b c d e (inl x) (inl y) = x ∙ sym y
      pick u v a b c d e (inl x) (inr y) = absurd (fresh v b (omega arith) (sym (with_old v (omega arith)) ∙ sym e ∙ at_new u x))
      pick u v a b c d e (inr x) (inl y) = absurd (fresh u a (omega arith) (sym (with_old u (omega arith)) ∙ e ∙ at_new v y))
      pick u v a b c d e (inr x) (inr y) =
          k.apart u v a b (omega arith) (omega arith) (sym (with_old u (omega arith)) ∙ e ∙ with_old v (omega arith))

      low : (v : ℕ) → 0 < v → v ≤ suc n → (v ≡ suc n) ⊎ (v ≡ suc n → ⊥) → with_key K n key v / 8192 < v
      low v a b (inl x) = subst (λ (y : ℕ). y / 8192 < v) (sym (at_new v x)) (omega arith)
      low v a b (inr x) = subst (λ (y : ℕ). y / 8192 < v) (sym (with_old v (omega arith))) (k.down v a (omega arith))
