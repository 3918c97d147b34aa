-- numbers in bytes
use Rattle.std.proofs.Common.{◌≡◌, ℕ, zero, suc, ◌+◌, ◌-◌, ◌*◌, ◌/◌, ◌%◌, ◌^◌, ◌<◌, ◌≤◌, List, length, get_or, take, drop, sym, refl, ap, ◌∙◌, subst, ap₂, w32, w64, bit_or, length-drop, arith, pow_mono, pow-add}
use native.Mathlib.Nat.{div-eq_of_lt}
use borrow.Rule.Slice.PartMut.{put_mid}
use Rattle.std.specs.Int.{to_be_bytes, from_be_bytes}
use Rattle.std.specs.List.{fold}
use Rattle.std.proofs.lemmas.Nat.{shr-shr}
use Rattle.std.proofs.lemmas.List.{get_or-take, get_or-drop, length-take-le, drop_more}
use Rattle.std.proofs.lemmas.Grind.{or_after_shift}
use Rattle.compact_map.specs.Bytes.{byte_of, number_at, Written}
use Rattle.compact_map.proofs.Parts.{part_here, part_below, part_above}

pub number_none : (bs : List ℕ) (at : ℕ) → 0 ≡ number_at bs at 0
unfolding number_at
number_none bs at = refl

pub number_more : (bs : List ℕ) (at count : ℕ) → number_at bs at (count + 1) ≡ number_at bs at count * 256 + get_or bs (at + count) 0
unfolding number_at
number_more bs at count = ap (number_at bs at) (let e : count + 1 ≡ suc count = omega arith in e)

-- one byte more
pub grown_lt : (x b j : ℕ) → x < 2 ^ (8 * j) → b < 256 → x * 256 + b < 2 ^ (8 * (j + 1))
grown_lt x b j h g =
    let e : 2 ^ (8 * (j + 1)) ≡ 2 ^ (8 * j) * 2 ^ 8 = ap (λ (y : ℕ). 2 ^ y) (let s : 8 * (j + 1) ≡ 8 * j + 8 = omega arith in s) ∙ pow-add 2 (8 * j) 8 in
    omega arith

-- a number has no more bits than its bytes
pub number_lt : (bs : List ℕ) (at count : ℕ) → ((k : ℕ) → get_or bs k 0 < 256) → number_at bs at count < 2 ^ (8 * count)
unfolding number_at
number_lt bs at zero small = omega arith
number_lt bs at (suc count) small = subst (λ (n : ℕ). number_at bs at count * 256 + get_or bs (at + count) 0 < 2 ^ (8 * n)) (let e : count + 1 ≡ suc count = omega arith in e)
    (grown_lt (number_at bs at count) (get_or bs (at + count) 0) count (number_lt bs at count small) (small (at + count)))

-- the first four of six bytes, as the library reads them
pub first_four : (bs word : List ℕ) (at : ℕ) → ((k : ℕ) → get_or bs k 0 < 256) → word ≡ take (at + 4 - at) (drop at bs) → from_be_bytes w32 word ≡ number_at bs at 6 / 2 ^ 16
first_four bs word at small is =
    omega (
      arith,
      number_none bs at,
      number_more bs at 0,
      number_more bs at 1,
      number_more bs at 2,
      number_more bs at 3,
      number_more bs at 4,
      number_more bs at 5,
      byte 0 (omega arith),
      byte 1 (omega arith),
      byte 2 (omega arith),
      byte 3 (omega arith),
      small (at + 4),
      small (at + 5),
    )
  where
    byte : (i : ℕ) → i < 4 → get_or word i 0 ≡ get_or bs (at + i) 0
    byte i h = ap (λ (l : List ℕ). get_or l i 0) is ∙ get_or-take (at + 4 - at) (drop at bs) i 0 (omega arith) ∙ get_or-drop at bs i 0

-- a byte more, as the code takes it in
abbrev pub shifted : ℕ → ℕ → ℕ
shifted n b = bit_or (n * 256 % 2 ^ 64) b

shifted_is : (n b : ℕ) → n < 2 ^ 40 → b < 256 → shifted n b ≡ n * 256 + b
shifted_is n b h small = or_after_shift n 256 (2 ^ 64) b refl small (omega arith)

folded : (bs : List ℕ) (at : ℕ) → ((k : ℕ) → get_or bs k 0 < 256) → (n i : ℕ) → i + n ≤ 6 → at + i + n ≤ length bs
    → fold shifted (number_at bs at i) (take n (drop (at + i) bs)) ≡ number_at bs at (i + n)
folded bs at small zero i short inside = ap (number_at bs at) (let e : i ≡ i + 0 = omega arith in e)
folded bs at small (suc n) i short inside =
    ap (λ (l : List ℕ). fold shifted (number_at bs at i) (take (suc n) l)) (drop_more bs (at + i) 0 (omega arith))
    ∙ ap (λ (x : ℕ). fold shifted x (take n (drop (at + i + 1) bs)))
    (shifted_is (number_at bs at i) (get_or bs (at + i) 0) (let p : 2 ^ (8 * i) ≤ 2 ^ 40 = pow_mono (let e : 8 * i ≤ 40 = omega arith in e) in omega (arith, number_lt bs at i small)) (small (at + i)) ∙ sym (number_more bs at i))
    ∙ ap (λ (x : ℕ). fold shifted (number_at bs at (i + 1)) (take n (drop x bs))) (let e : at + i + 1 ≡ at + (i + 1) = omega arith in e)
    ∙ folded bs at small n (i + 1) (omega arith) (omega arith)
    ∙ ap (number_at bs at) (let e : i + 1 + n ≡ i + suc n = omega arith in e)

-- bytes taken in one after another are the number that they hold
pub fold_number : (bs : List ℕ) (at n : ℕ) → n ≤ 6 → at + n ≤ length bs → ((k : ℕ) → get_or bs k 0 < 256) → fold shifted 0 (take (at + n - at) (drop at bs)) ≡ number_at bs at n
fold_number bs at n short inside small =
    ap₂ (λ (x y : ℕ). fold shifted 0 (take x (drop y bs))) (let e : at + n - at ≡ n = omega arith in e) (let e : at ≡ at + 0 = omega arith in e)
    ∙ ap (λ (x : ℕ). fold shifted x (take n (drop (at + 0) bs))) (number_none bs at)
    ∙ folded bs at small n 0 (omega arith) (omega arith) ∙ ap (number_at bs at) (let e : 0 + n ≡ n = omega arith in e)

-- the bytes of a number, as the library writes them
pub byte_is : (x i : ℕ) → i < 8 → get_or (to_be_bytes w64 x) i 0 ≡ byte_of 8 x i
byte_is x zero h = refl
byte_is x (suc zero) h = refl
byte_is x (suc (suc zero)) h = refl
byte_is x (suc (suc (suc zero))) h = refl
byte_is x (suc (suc (suc (suc zero)))) h = refl
byte_is x (suc (suc (suc (suc (suc zero))))) h = refl
byte_is x (suc (suc (suc (suc (suc (suc zero)))))) h = refl
byte_is x (suc (suc (suc (suc (suc (suc (suc zero))))))) h = omega arith
byte_is x (suc (suc (suc (suc (suc (suc (suc (suc i)))))))) h = absurd (omega arith)

-- a part overwritten by the last bytes of a number
pub write_word : (bs word part : List ℕ) (at x n : ℕ) → n ≤ 8 → at + n ≤ length bs → word ≡ to_be_bytes w64 x → part ≡ take (8 - (8 - n)) (drop (8 - n) word)
    → Written n bs (put_mid at (at + n - at) bs part) at x
write_word bs word part at x n short inside ew is = record {
  here = λ j h.
      part_here at (at + n - at) bs part (omega arith) j (omega (arith, long)) ∙ ap (λ (l : List ℕ). get_or l j 0) is
      ∙ get_or-take (8 - (8 - n)) (drop (8 - n) word) j 0 (omega arith) ∙ get_or-drop (8 - n) word j 0
      ∙ ap (λ (l : List ℕ). get_or l (8 - n + j) 0) ew ∙ byte_is x (8 - n + j) (omega arith)
      ∙ ap (λ (k : ℕ). x / 2 ^ (8 * k) % 256) (let e : 8 - 1 - (8 - n + j) ≡ n - 1 - j = omega arith in e);
  below = λ k h. part_below at (at + n - at) bs part (omega arith) k h;
  above = λ k h. part_above at (at + n - at) bs part (omega arith) k (omega (arith, long)) (omega arith);
}
  where
    long : length part ≡ n
    long = ap length is ∙ length-take-le (8 - (8 - n)) (drop (8 - n) word) (omega (arith, length-drop (8 - n) word, ap length ew)) ∙ (let e : 8 - (8 - n) ≡ n = omega arith in e)

-- bytes that are those of x, up to i of them
read_upper : (bs : List ℕ) (at count x i : ℕ) → i ≤ count → x < 2 ^ (8 * count) → ((j : ℕ) → j < count → get_or bs (at + j) 0 ≡ byte_of count x j)
    → number_at bs at i ≡ x / 2 ^ (8 * (count - i))
read_upper bs at count x zero h small each =
    sym (number_none bs at) ∙ sym (div-eq_of_lt small) ∙ ap (λ (y : ℕ). x / 2 ^ (8 * y)) (let e : count ≡ count - 0 = omega arith in e)
read_upper bs at count x (suc i) h small each =
    ap (number_at bs at) (let e : suc i ≡ i + 1 = omega arith in e) ∙ number_more bs at i
    ∙ ap₂ (λ (a b : ℕ). a * 256 + b) (read_upper bs at count x i (omega arith) small each ∙ split) (each i (omega arith) ∙ ap (λ (y : ℕ). x / 2 ^ (8 * y) % 256) rest)
    ∙ (let e : x / 2 ^ (8 * (count - suc i)) / 256 * 256 + x / 2 ^ (8 * (count - suc i)) % 256 ≡ x / 2 ^ (8 * (count - suc i)) = omega arith in e)
  where
    rest : count - 1 - i ≡ count - suc i
    rest = omega arith

    split : x / 2 ^ (8 * (count - i)) ≡ x / 2 ^ (8 * (count - suc i)) / 256
    split = ap (λ (y : ℕ). x / 2 ^ y) (let e : 8 * (count - i) ≡ 8 * (count - suc i) + 8 = omega arith in e) ∙ sym (shr-shr x (8 * (count - suc i)) 8)

pub read_back : (bs : List ℕ) (at count x : ℕ) → x < 2 ^ (8 * count) → ((j : ℕ) → j < count → get_or bs (at + j) 0 ≡ byte_of count x j) → number_at bs at count ≡ x
read_back bs at count x small each =
    read_upper bs at count x count (omega arith) small each ∙ ap (λ (y : ℕ). x / 2 ^ (8 * y)) (let e : count - count ≡ 0 = omega arith in e) ∙ (let e : x / 1 ≡ x = omega arith in e)

-- bytes that are as they were
pub number_same : (old new : List ℕ) (at count : ℕ) → ((k : ℕ) → at ≤ k → k < at + count → get_or new k 0 ≡ get_or old k 0) → number_at new at count ≡ number_at old at count
unfolding number_at
number_same old new at zero e = refl
number_same old new at (suc count) e =
    ap₂ (λ (a b : ℕ). a * 256 + b) (number_same old new at count (λ k p q. e k p (omega arith))) (e (at + count) (omega arith) (omega arith))
