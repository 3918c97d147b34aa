-- what digits are taken in as is the number of the definitions
use Rattle.std.proofs.Common.{◌≡◌, ℕ, suc, ◌+◌, ◌-◌, ◌*◌, ◌%◌, ◌^◌, ◌<◌, ◌≤◌, true, false, List, [], ◌∷◌, length, Bool, cond, nat_lt, ◌==◌, None, Option, Ok, Err, Result, rules, tests, refl, ap, ◌∙◌, arith}
use native.Mathlib.Nat.{pow-succ', pow-le-pow_right}
use Rattle.std.proofs.lemmas.Bool.{and_parts}
use Rattle.std.proofs.lemmas.Bool.Decides.{nat_tests}
use Rattle.std.specs.Char.{is_ascii_digit}
use Rattle.std.specs.List.{fold}
use Rattle.std.specs.Result.{result_ok, OkIff}
use Rattle.commands.specs.Numbers.{all_digits, decimal, decimal_from, number}

-- a digit more, as the code takes it in
abbrev pub taken_in : ℕ → ℕ → ℕ
taken_in n d = (n * 10 % 2 ^ 64 + (d + 2 ^ 8 - 48) % 2 ^ 8) % 2 ^ 64

taken_in_is : (n d : ℕ) → n < 10 ^ 10 → is_ascii_digit d ≡ true → taken_in n d ≡ 10 * n + (d - 48)
taken_in_is n d h e = grind (arith, nat_tests)

-- with so many digits to come there are so few before
taken_all : (k n : ℕ) (text : List ℕ) → k + length text ≤ 10 → n < 10 ^ k → all_digits text ≡ true → fold taken_in n text ≡ decimal_from n text
taken_all k n [] s h e = refl
taken_all k n (d ∷ text) s h e =
    let p = and_parts (is_ascii_digit d) (all_digits text) e in
    let l : k ≤ 10 = omega arith in
    let m : 10 ^ k ≤ 10 ^ 10 = pow-le-pow_right (omega arith) l in
    let z = taken_in_is n d (omega arith) p.0 in
    ap (λ (x : ℕ). fold taken_in x text) z ∙ taken_all (suc k) (10 * n + (d - 48)) text (omega arith) (more k n d h p.0) p.1
  where
    more : (k n d : ℕ) → n < 10 ^ k → is_ascii_digit d ≡ true → 10 * n + (d - 48) < 10 ^ suc k
    more k n d h e = let q : d - 48 ≤ 9 = grind (arith, nat_tests) in omega (arith, pow-succ' 10 k)

-- at most ten digits are the number that they are taken in as, where it has 32 bits
pub read : {E : Type 0} (text : List ℕ) (value : ℕ) (r : Result ℕ E) → (length text == 0) ≡ false → length text ≤ 10 → all_digits text ≡ true
    → value ≡ fold taken_in 0 text → OkIff r (value < 4294967296) value → result_ok r ≡ number text
unfolding number
read text value (Ok n) z h e is o =
    let d : value ≡ decimal text = is ∙ taken_all 0 0 text (omega arith) (omega arith) e in
    search (rules, tests)
read text value (Err why) z h e is o =
    let d : value ≡ decimal text = is ∙ taken_all 0 0 text (omega arith) (omega arith) e in
    search (rules, tests)

-- other bytes than digits are no number
pub no_number : (text : List ℕ) → all_digits text ≡ false → None ≡ number text
unfolding number
no_number text e = rw e (none (length text == 0) (nat_lt 10 (length text)))
  where
    none : (b c : Bool) → ◌≡◌ {A = Option ℕ} None (cond b None (cond c None None))
    none true c = refl
    none false true = refl
    none false false = refl
