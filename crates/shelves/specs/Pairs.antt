-- two bits replaced in a byte
use Rattle.std.proofs.Common.{◌≡◌, ℕ, zero, suc, ◌<◌, Bool, true, false, Some, None, Option, refl, arith}
use Rattle.shelves.specs.Bits.{pair_in, place_of, pair_of, with_pair}

-- what holds of each of a byte's four places
each_place : (P : ℕ → Type 0) → P 0 → P 1 → P 2 → P 3 → (k : ℕ) → k < 4 → P k
each_place P p q r s zero h = p
each_place P p q r s (suc zero) h = q
each_place P p q r s (suc (suc zero)) h = r
each_place P p q r s (suc (suc (suc zero))) h = s
each_place P p q r s (suc (suc (suc (suc k)))) h = absurd (let z : ⊥ = omega arith in z)

pub place_pair : (place : Option Bool) → place_of (pair_of place) ≡ place
place_pair None = refl
place_pair (Some false) = refl
place_pair (Some true) = refl

pub pair_small : (place : Option Bool) → pair_of place < 4
pair_small None = omega arith
pair_small (Some false) = omega arith
pair_small (Some true) = omega arith

pub zero_blank : (k : ℕ) → k < 4 → place_of (pair_in 0 k) ≡ None
zero_blank k h = each_place (λ k. place_of (pair_in 0 k) ≡ None) refl refl refl refl k h

pub pair_same : (byte pair k : ℕ) → pair < 4 → k < 4 → pair_in (with_pair byte k pair) k ≡ pair
pair_same byte pair k p h = each_place (λ k. pair_in (with_pair byte k pair) k ≡ pair) (omega arith) (omega arith) (omega arith) (omega arith) k h

abbrev Kept : ℕ → ℕ → ℕ → ℕ → Type 0
Kept byte pair k j = (j ≡ k → ⊥) → pair_in (with_pair byte k pair) j ≡ pair_in byte j

pub pair_other : (byte pair k j : ℕ) → pair < 4 → k < 4 → j < 4 → Kept byte pair k j
pair_other byte pair k j p h m =
    each_place (λ k. Kept byte pair k j)
    (each_place (λ j. Kept byte pair 0 j) (λ d. absurd (d refl)) (λ d. omega arith) (λ d. omega arith) (λ d. omega arith) j m)
    (each_place (λ j. Kept byte pair 1 j) (λ d. omega arith) (λ d. absurd (d refl)) (λ d. omega arith) (λ d. omega arith) j m)
    (each_place (λ j. Kept byte pair 2 j) (λ d. omega arith) (λ d. omega arith) (λ d. absurd (d refl)) (λ d. omega arith) j m)
    (each_place (λ j. Kept byte pair 3 j) (λ d. omega arith) (λ d. omega arith) (λ d. omega arith) (λ d. absurd (d refl)) j m)
    k h
