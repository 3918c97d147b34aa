-- setting the nodes anew into twice as many slots
use Rattle.std.proofs.Common.{◌≡◌, ℕ, suc, ◌+◌, ◌-◌, ◌*◌, ◌%◌, ◌^◌, ◌<◌, ◌≤◌, ◌⊎◌, List, get_or, sym, ap, ◌∙◌, subst, ap₂, inl, inr, arith, pow-add}
use Rattle.std.proofs.lemmas.Bool.{cases_eq}
use Rattle.rules.specs.declared.step.Step.TheVariants.{By32}
use Rattle.compact_map.specs.Hash.{unhash, home_of}
use Rattle.compact_map.specs.Slots.{quotient_in, displacement_in}
use Rattle.compact_map.specs.Memory.{set_start}
use Rattle.compact_map.specs.Table.{slot_at, place_at, Taken, homeward, Vacant, key_in, Filled, Placed, Stored}
use Rattle.compact_map.proofs.Numbers.{number_same}
use Rattle.compact_map.proofs.HeldKeys.{home_lt}
use Rattle.compact_map.proofs.Tables.{TableFacts}
use Rattle.compact_map.proofs.Layouts.{LaidOut, keys_below}
use Rattle.compact_map.proofs.Filled.{in_slot, in_place, elsewhere, where_is, slot_byte_lem, place_byte_lem, other_byte, filled_as, laid_of, filled_more}
use Rattle.compact_map.proofs.Reading.{laid_facts, laid_vacant, shown, stored}

pub pow_more : (k : ℕ) → 2 ^ (k + 1) ≡ 2 * 2 ^ k
pow_more k = let e : 2 ^ (k + 1) ≡ 2 ^ k * 2 = pow-add 2 k 1 in omega arith

-- the two sets take turns
turns : (l large : ℕ) → ((set_start l large ≡ 0) × (set_start (l + 1) large ≡ 6 * large)) ⊎ ((set_start l large ≡ 6 * large) × (set_start (l + 1) large ≡ 0))
turns l large = elim (cases_eq (l % 2) 0) [
  | inl e ↦ let f : (l + 1) % 2 ≡ 1 = omega arith in inl (start l 0 e ∙ (let z : 0 * (6 * large) ≡ 0 = omega arith in z), start (l + 1) 1 f ∙ (let z : 1 * (6 * large) ≡ 6 * large = omega arith in z))
  | inr e ↦
      let g : l % 2 ≡ 1 = omega arith in
      let f : (l + 1) % 2 ≡ 0 = omega arith in
      inr (start l 1 g ∙ (let z : 1 * (6 * large) ≡ 6 * large = omega arith in z), start (l + 1) 0 f ∙ (let z : 0 * (6 * large) ≡ 0 = omega arith in z))
]
  where
    start : (k x : ℕ) → k % 2 ≡ x → set_start k large ≡ x * (6 * large)
    start k x e = ap (λ (y : ℕ). y * (6 * large)) e

-- what setting node v anew needs of the bytes, and what it leaves of them
pub record Turn (l large : ℕ) (old bs : List ℕ) (v : ℕ) : Type 0 where
  pub inside : place_at bs (12 * large) v < 2 ^ l
  pub taken : Taken (slot_at bs (set_start l large) (place_at bs (12 * large) v))
  pub near : displacement_in (slot_at bs (set_start l large) (place_at bs (12 * large) v)) < 2 ^ l
  pub vacant : (key : ℕ) → Vacant (2 ^ (l + 1)) (slot_at bs (set_start (l + 1) large)) (home_of By32 (l + 1) key)
  pub next : (key : ℕ) (new : List ℕ) → key ≡ key_in By32 bs l large v → Placed By32 (l + 1) large v key bs new
      → Filled By32 (l + 1) large (key_in By32 old l large) v old new

-- where the other set lies
module _ (l large : ℕ) (wider : 2 * 2 ^ l ≤ large) where
  pub other_start : set_start (l + 1) large ≡ 6 * large - set_start l large
  other_start = elim (turns l large) [ inl z ↦ omega (arith, z.0, z.1) | inr z ↦ omega (arith, z.0, z.1) ]

  pub other_fits : set_start (l + 1) large + 6 * 2 ^ (l + 1) ≤ 12 * large
  other_fits = elim (turns l large) [ inl z ↦ omega (arith, z.1, pow_more l) | inr z ↦ omega (arith, z.1, pow_more l) ]

  -- the old set is not written
  apart : (k : ℕ) → set_start l large ≤ k → k < set_start l large + 6 * 2 ^ l → (set_start (l + 1) large ≤ k → set_start (l + 1) large + 6 * 2 ^ (l + 1) ≤ k)
  apart k p q r = elim (turns l large) [ inl z ↦ absurd (omega (arith, z.0, z.1)) | inr z ↦ omega (arith, z.0, z.1, pow_more l) ]

  module _ (old : List ℕ) (n : ℕ) (fits : set_start l large + 6 * 2 ^ l ≤ 12 * large) (small : l + 1 ≤ 15) (room : n < 2 ^ l) (was : Stored By32 l large n old) where
    facts : TableFacts l (slot_at old (set_start l large)) (place_at old (12 * large)) (n + 1)
    facts =
        laid_facts l (slot_at old (set_start l large)) (place_at old (12 * large)) (key_in By32 old l large) n (omega arith) room was.keys
        (laid_of l large fits (key_in By32 old l large) n old old (omega arith) room was.keys was.filled)

    -- a turn
    module _ (bs : List ℕ) (done : ℕ) (way : Filled By32 (l + 1) large (key_in By32 old l large) done old bs) (more : done < n) where
      place_kept : place_at bs (12 * large) (suc done) ≡ place_at old (12 * large) (suc done)
      place_kept = number_same old bs (12 * large + 2 * suc done) 2
          (λ k p q. way k ∙ other_byte (l + 1) large other_fits (key_in By32 old l large) done (get_or old k 0) k (λ r. omega (arith, other_fits)) (λ r. omega arith))

      slot_kept : (i : ℕ) → i < 2 ^ l → slot_at bs (set_start l large) i ≡ slot_at old (set_start l large) i
      slot_kept i h = number_same old bs (set_start l large + 6 * i) 6
          (λ k p q. way k ∙ other_byte (l + 1) large other_fits (key_in By32 old l large) done (get_or old k 0) k (apart k (omega arith) (omega arith)) (λ r. absurd (omega arith)))

      inside_old : place_at old (12 * large) (suc done) < 2 ^ l
      inside_old = facts.inside (suc done) (omega arith) (omega arith)

      taken_old : Taken (slot_at old (set_start l large) (place_at old (12 * large) (suc done)))
      taken_old = facts.taken (suc done) (omega arith) (omega arith)

      held : slot_at bs (set_start l large) (place_at bs (12 * large) (suc done)) ≡ slot_at old (set_start l large) (place_at old (12 * large) (suc done))
      held = ap (slot_at bs (set_start l large)) place_kept ∙ slot_kept (place_at old (12 * large) (suc done)) inside_old

      key_kept : key_in By32 bs l large (suc done) ≡ key_in By32 old l large (suc done)
      key_kept = ap₂ (λ (w i : ℕ). unhash (13 + l) (quotient_in w * 2 ^ l + homeward (2 ^ l) i (displacement_in w))) held place_kept

      laid : LaidOut (l + 1) (slot_at bs (set_start (l + 1) large)) (place_at bs (12 * large)) (key_in By32 old l large) done
      laid =
          laid_of (l + 1) large other_fits (key_in By32 old l large) done old bs small (omega (arith, pow_more l))
          (keys_below (key_in By32 old l large) n done (omega arith) was.keys) way

      pub turn : (v : ℕ) → v ≡ suc done → Turn l large old bs v
      turn v e = subst (Turn l large old bs) (sym e)
          (record {
            inside = subst (λ (x : ℕ). x < 2 ^ l) (sym place_kept) inside_old;
            taken = subst Taken (sym held) taken_old;
            near = subst (λ (w : ℕ). displacement_in w < 2 ^ l) (sym held) (facts.full.short (place_at old (12 * large) (suc done)) inside_old taken_old);
            vacant = λ key. laid_vacant (l + 1) (slot_at bs (set_start (l + 1) large)) (place_at bs (12 * large)) (key_in By32 old l large) done small (omega (arith, pow_more l))
                (keys_below (key_in By32 old l large) n done (omega arith) was.keys) laid (home_of By32 (l + 1) key) (home_lt (l + 1) key);
            next = λ key new f p. filled_more (l + 1) large other_fits (key_in By32 old l large) done key old bs new laid.slots (f ∙ key_kept) way p;
          })

    -- emptying the other set first
    module _ (mid : List ℕ) (cleared : (K : ℕ → ℕ) → Filled By32 (l + 1) large K 0 old mid) where
      byte_kept : (k : ℕ) → (set_start (l + 1) large ≤ k → set_start (l + 1) large + 6 * 2 ^ (l + 1) ≤ k) → get_or mid k 0 ≡ get_or old k 0
      byte_kept k a = cleared (key_in By32 old l large) k ∙ other_byte (l + 1) large other_fits (key_in By32 old l large) 0 (get_or old k 0) k a (λ r. omega arith)

      filled_still : Filled By32 l large (key_in By32 old l large) n mid mid
      filled_still k = elim (where_is l large n k) [
        | in_slot i j a b q ↦
            byte_kept k (apart k (omega arith) (omega arith)) ∙ was.filled k ∙ slot_byte_lem l large fits (key_in By32 old l large) n (get_or old k 0) i j k a b q
            ∙ sym (slot_byte_lem l large fits (key_in By32 old l large) n (get_or mid k 0) i j k a b q)
        | in_place v j a b c q ↦
            byte_kept k (λ r. omega (arith, other_fits)) ∙ was.filled k ∙ place_byte_lem l large fits (key_in By32 old l large) n (get_or old k 0) v j k a b c q
            ∙ sym (place_byte_lem l large fits (key_in By32 old l large) n (get_or mid k 0) v j k a b c q)
        | elsewhere a b ↦ sym (other_byte l large fits (key_in By32 old l large) n (get_or mid k 0) k a b)
      ]

      pub cleared_stored : Stored By32 l large n mid
      cleared_stored = stored l large fits (key_in By32 old l large) n mid mid (omega arith) room was.keys filled_still

      pub cleared_filled : (new : List ℕ) → Filled By32 (l + 1) large (key_in By32 mid l large) n mid new → Filled By32 (l + 1) large (key_in By32 old l large) n old new
      cleared_filled new f k = filled_as (l + 1) large other_fits (key_in By32 mid l large) (key_in By32 old l large) n mid new
          (λ v a b. shown l large fits (key_in By32 old l large) n mid mid (omega arith) room was.keys filled_still v a b) f k ∙ elim (where_is (l + 1) large n k) [
            | in_slot i j a b q ↦
                slot_byte_lem (l + 1) large other_fits (key_in By32 old l large) n (get_or mid k 0) i j k a b q
                ∙ sym (slot_byte_lem (l + 1) large other_fits (key_in By32 old l large) n (get_or old k 0) i j k a b q)
            | in_place v j a b c q ↦
                place_byte_lem (l + 1) large other_fits (key_in By32 old l large) n (get_or mid k 0) v j k a b c q
                ∙ sym (place_byte_lem (l + 1) large other_fits (key_in By32 old l large) n (get_or old k 0) v j k a b c q)
            | elsewhere a b ↦
                other_byte (l + 1) large other_fits (key_in By32 old l large) n (get_or mid k 0) k a b ∙ byte_kept k a
                ∙ sym (other_byte (l + 1) large other_fits (key_in By32 old l large) n (get_or old k 0) k a b)
          ]
