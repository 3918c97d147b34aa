-- two bits of a byte, by shifts and masks
use Rattle.std.proofs.Common.{◌≡◌, ℕ, zero, suc, ◌+◌, ◌-◌, ◌*◌, ◌/◌, ◌%◌, ◌^◌, ◌<◌, sym, ap, ap₂, ◌∙◌, arith, pow_pos, pow-add}
use Rattle.std.proofs.lemmas.Nat.{and_mask, and_block, or_block, mod_below}
use Rattle.std.proofs.Math.Pow.{split}
use Rattle.std.specs.Int.Bits.{bit_and, bit_or, or_shifted_r, or_zero_r}
use Rattle.shelves.specs.Bits.{pair_in, with_pair}

pub pair_shifted : (byte k : ℕ) → k < 4 → bit_and (byte / 2 ^ (6 - 2 * k)) 3 ≡ pair_in byte k
pair_shifted byte zero h = and_mask (byte / 64) 2
pair_shifted byte (suc zero) h = and_mask (byte / 16) 2
pair_shifted byte (suc (suc zero)) h = and_mask (byte / 4) 2
pair_shifted byte (suc (suc (suc zero))) h = and_mask (byte / 1) 2
pair_shifted byte (suc (suc (suc (suc k)))) h = absurd (omega arith)

-- the t low bits stay, and i bits from bit t + 2 on
masked : (t i byte pair : ℕ) → pair * 2 ^ t < 2 ^ (t + 2)
    → bit_or (bit_and byte ((2 ^ i - 1) * 2 ^ (t + 2) + (2 ^ t - 1))) (pair * 2 ^ t) ≡ byte / 2 ^ (t + 2) % 2 ^ i * 2 ^ (t + 2) + (pair * 2 ^ t + byte % 2 ^ (t + 2) % 2 ^ t)
masked t i byte pair put =
    let wide : 2 ^ (t + 2) ≡ 2 ^ t * 4 = pow-add 2 t 2 in
    let some : 0 < 2 ^ t = pow_pos t in
    let low : byte % 2 ^ (t + 2) < 2 ^ (t + 2) = mod_below byte (2 ^ (t + 2)) (pow_pos (t + 2)) in
    let ones : 2 ^ t - 1 < 2 ^ (t + 2) = omega arith in
    let less : byte % 2 ^ (t + 2) % 2 ^ t < 2 ^ t = mod_below (byte % 2 ^ (t + 2)) (2 ^ t) some in
    let less2 : byte % 2 ^ (t + 2) % 2 ^ t < 2 ^ (t + 2) = omega arith in
    let led : pair * 2 ^ t ≡ 0 * 2 ^ (t + 2) + pair * 2 ^ t = omega arith in
    ap (λ (x : ℕ). bit_or x (pair * 2 ^ t))
    (ap (λ (x : ℕ). bit_and x ((2 ^ i - 1) * 2 ^ (t + 2) + (2 ^ t - 1))) (sym (split byte (t + 2)))
    ∙ and_block (t + 2) (byte / 2 ^ (t + 2)) (2 ^ i - 1) (byte % 2 ^ (t + 2)) (2 ^ t - 1) low ones
    ∙ ap₂ (λ (x y : ℕ). x * 2 ^ (t + 2) + y) (and_mask (byte / 2 ^ (t + 2)) i) (and_mask (byte % 2 ^ (t + 2)) t))
    ∙ ap (bit_or (byte / 2 ^ (t + 2) % 2 ^ i * 2 ^ (t + 2) + byte % 2 ^ (t + 2) % 2 ^ t)) led
    ∙ or_block (t + 2) (byte / 2 ^ (t + 2) % 2 ^ i) 0 (byte % 2 ^ (t + 2) % 2 ^ t) (pair * 2 ^ t) less2 put
    ∙ ap₂ (λ (x y : ℕ). x * 2 ^ (t + 2) + y) (or_zero_r (byte / 2 ^ (t + 2) % 2 ^ i)) (or_shifted_r pair t (byte % 2 ^ (t + 2) % 2 ^ t) less)

pub pair_masked : (byte k pair : ℕ) → byte < 256 → k < 4 → pair < 4
    → bit_or (bit_and byte (255 - 3 * 2 ^ (6 - 2 * k) % 256)) (pair * 2 ^ (6 - 2 * k) % 256) ≡ with_pair byte k pair
pair_masked byte zero pair b h p =
    let e : pair * 64 % 256 ≡ pair * 64 = omega arith in
    ap (bit_or (bit_and byte 63)) e ∙ masked 6 0 byte pair (omega arith) ∙ (omega arith)
pair_masked byte (suc zero) pair b h p =
    let e : pair * 16 % 256 ≡ pair * 16 = omega arith in
    ap (bit_or (bit_and byte 207)) e ∙ masked 4 2 byte pair (omega arith) ∙ (omega arith)
pair_masked byte (suc (suc zero)) pair b h p =
    let e : pair * 4 % 256 ≡ pair * 4 = omega arith in
    ap (bit_or (bit_and byte 243)) e ∙ masked 2 4 byte pair (omega arith) ∙ (omega arith)
pair_masked byte (suc (suc (suc zero))) pair b h p =
    let e : pair * 1 % 256 ≡ pair * 1 = omega arith in
    ap (bit_or (bit_and byte 252)) e ∙ masked 0 6 byte pair (omega arith) ∙ (omega arith)
pair_masked byte (suc (suc (suc (suc k)))) pair b h p = absurd (omega arith)
