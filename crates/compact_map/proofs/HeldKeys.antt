-- a key, and the slot that holds its home and quotient
use Rattle.std.proofs.Common.{◌≡◌, ℕ, ◌+◌, ◌-◌, ◌*◌, ◌/◌, ◌%◌, ◌^◌, ◌<◌, ◌≤◌, sym, ap, ◌∙◌, subst, ap₂, mod-lt, div-add-mod', arith, pow_pos, pow-add, shr_lt}
use lib.Arith.{digits_lt, digits_div, digits_mod}
use Rattle.rules.specs.declared.step.Step.TheVariants.{By32}
use Rattle.compact_map.specs.Hash.{hash, unhash, home_of, quotient_of}
use Rattle.compact_map.specs.Slots.{quotient_in, displacement_in}
use Rattle.compact_map.specs.Table.{Taken, homeward, Holds, hash_at, key_at}
use Rattle.compact_map.proofs.Inverse.{unhashes, rehashes, hash_lt}

pub home_lt : (l key : ℕ) → home_of By32 l key < 2 ^ l
home_lt l key = mod-lt (hash (13 + l) key) (pow_pos l)

pub quotient_lt : (l key : ℕ) → quotient_of By32 l key < 2 ^ 13
quotient_lt l key = shr_lt 13 l (hash_lt (13 + l) key)

hash_at_lt : (l : ℕ) (S : ℕ → ℕ) (i : ℕ) → hash_at l S i < 2 ^ (13 + l)
hash_at_lt l S i =
    subst (λ (x : ℕ). hash_at l S i < x) (sym (pow-add 2 13 l))
    (digits_lt (mod-lt (S i / 2 ^ 34) (pow_pos 13)) (mod-lt (i + 2 ^ l - displacement_in (S i)) (pow_pos l)))

-- what is held has the key
pub held_key : (l key : ℕ) (S : ℕ → ℕ) (i : ℕ) → l ≤ 15 → key < 2 ^ (13 + l) → Holds (2 ^ l) S (home_of By32 l key) (quotient_of By32 l key) i → key_at By32 l S i ≡ key
held_key l key S i small k h =
    ap (unhash (13 + l)) (ap₂ (λ (x y : ℕ). x * 2 ^ l + y) h.quotient_is h.home_is ∙ div-add-mod' (hash (13 + l) key) (2 ^ l))
    ∙ unhashes (13 + l) key (omega arith) k

-- what has the key is held
pub key_held : (l key : ℕ) (S : ℕ → ℕ) (i : ℕ) → l ≤ 15 → i < 2 ^ l → Taken (S i) → key_at By32 l S i ≡ key → Holds (2 ^ l) S (home_of By32 l key) (quotient_of By32 l key) i
key_held l key S i small hi t e = record {
  inside = hi;
  taken = t;
  home_is = sym (ap (λ (x : ℕ). x % 2 ^ l) same ∙ digits_mod (quotient_in (S i)) below);
  quotient_is = sym (ap (λ (x : ℕ). x / 2 ^ l) same ∙ digits_div (quotient_in (S i)) below);
}
  where
    below : homeward (2 ^ l) i (displacement_in (S i)) < 2 ^ l
    below = mod-lt (i + 2 ^ l - displacement_in (S i)) (pow_pos l)

    same : hash (13 + l) key ≡ hash_at l S i
    same = ap (hash (13 + l)) (sym e) ∙ rehashes (13 + l) (hash_at l S i) (omega arith) (hash_at_lt l S i)
