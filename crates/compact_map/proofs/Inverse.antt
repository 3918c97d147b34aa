-- the hash and its inverse
use Rattle.std.proofs.Common.{◌≡◌, ℕ, zero, ◌+◌, ◌-◌, ◌*◌, ◌/◌, ◌%◌, ◌^◌, ◌<◌, ◌≤◌, sym, ap, ◌∙◌, lt_of_lt_of_le, mod-lt, mod-eq_of_lt, mul_assoc, mul_comm, add-mul, div-add-mod', arith, pow_pos, pow_mono, pow-add, shr-shr}
use native.Mathlib.Nat.{mul-add-mod_self_right, div-eq_of_lt}
use lib.Bits.{bit_xor, xor_assoc, xor_self, xor_shr, xor_zero_r, xor_lt}
use lib.Pow.{shr_le}
use Rattle.compact_map.specs.Hash.{fold, hash, unhash}

-- the fold of a number of z bits has z bits
fold_lt : (z k : ℕ) → k < 2 ^ z → fold z k < 2 ^ z
fold_lt z k h = xor_lt z k (k / 2 ^ (z / 2 + 1)) h (let l : k / 2 ^ (z / 2 + 1) ≤ k = shr_le k (z / 2 + 1) in omega arith)

-- a fold is its own inverse
fold_fold : (z k : ℕ) → k < 2 ^ z → fold z (fold z k) ≡ k
fold_fold z k h =
    ap (bit_xor (bit_xor k s)) (xor_shr k s a ∙ ap (bit_xor s) gone ∙ xor_zero_r s)
    ∙ xor_assoc k s s ∙ ap (bit_xor k) (xor_self s) ∙ xor_zero_r k
  where
    a : ℕ
    a = z / 2 + 1

    s : ℕ
    s = k / 2 ^ a

    long : z ≤ a + a
    long = omega arith

    gone : s / 2 ^ a ≡ zero
    gone = shr-shr k a a ∙ div-eq_of_lt (lt_of_lt_of_le h (pow_mono long))

-- a remainder may be taken before a product
mod_mul_left : (x q m : ℕ) → (x % m) * q % m ≡ x * q % m
mod_mul_left x q m =
    sym (mul-add-mod_self_right (x / m * q) m (x % m * q))
    ∙ ap (λ (y : ℕ). y % m)
    (ap (λ (y : ℕ). y + x % m * q) (mul_assoc (x / m) q m ∙ ap (λ (y : ℕ). x / m * y) (mul_comm q m) ∙ sym (mul_assoc (x / m) m q))
    ∙ sym (add-mul (x / m * m) (x % m) q) ∙ ap (λ (y : ℕ). y * q) (div-add-mod' x m))

-- the product with a number and its inverse in 32 bits
times_inverse : (z key : ℕ) → z ≤ 32 → key < 2 ^ z → (key * 2654435761 % 2 ^ z) * 244002641 % 2 ^ z ≡ key
times_inverse z key small h =
    mod_mul_left (key * 2654435761) 244002641 (2 ^ z)
    ∙ ap (λ (y : ℕ). y % 2 ^ z) whole
    ∙ mul-add-mod_self_right (key * 150801925 * 2 ^ (32 - z)) (2 ^ z) key
    ∙ mod-eq_of_lt h
  where
    sum : (32 - z) + z ≡ 32
    sum = omega arith

    split : 2 ^ (32 - z) * 2 ^ z ≡ 4294967296
    split = sym (pow-add 2 (32 - z) z) ∙ ap (λ (y : ℕ). 2 ^ y) sum

    whole : key * 2654435761 * 244002641 ≡ key * 150801925 * 2 ^ (32 - z) * 2 ^ z + key
    whole =
        (let e : key * 2654435761 * 244002641 ≡ key * 150801925 * 4294967296 + key = omega arith in e)
        ∙ ap (λ (y : ℕ). key * 150801925 * y + key) (sym split)
        ∙ ap (λ (y : ℕ). y + key) (sym (mul_assoc (key * 150801925) (2 ^ (32 - z)) (2 ^ z)))

pub unhashes : (z key : ℕ) → z ≤ 32 → key < 2 ^ z → unhash z (hash z key) ≡ key
unhashes z key small h =
    ap (λ (y : ℕ). y * 244002641 % 2 ^ z) (fold_fold z (key * 2654435761 % 2 ^ z) (mod-lt (key * 2654435761) (pow_pos z)))
    ∙ times_inverse z key small h

-- and with the inverse first
inverse_times : (z key : ℕ) → z ≤ 32 → key < 2 ^ z → (key * 244002641 % 2 ^ z) * 2654435761 % 2 ^ z ≡ key
inverse_times z key small h =
    mod_mul_left (key * 244002641) 2654435761 (2 ^ z)
    ∙ ap (λ (y : ℕ). y % 2 ^ z) (let e : key * 244002641 * 2654435761 ≡ key * 2654435761 * 244002641 = omega arith in e)
    ∙ sym (mod_mul_left (key * 2654435761) 244002641 (2 ^ z))
    ∙ times_inverse z key small h

pub hash_lt : (z key : ℕ) → hash z key < 2 ^ z
hash_lt z key = fold_lt z (key * 2654435761 % 2 ^ z) (mod-lt (key * 2654435761) (pow_pos z))

pub rehashes : (z h : ℕ) → z ≤ 32 → h < 2 ^ z → hash z (unhash z h) ≡ h
rehashes z h small l =
    ap (fold z) (inverse_times z (fold z h) small (fold_lt z h l)) ∙ fold_fold z h l
