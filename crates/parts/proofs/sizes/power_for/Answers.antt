use Rattle.std.proofs.Common.{rules, tests, ◌≡◌, ◌≢◌, ℕ, ◌*◌, ◌<◌, ◌≤◌, ◌^◌, Some, None, Option, sym, subst, arith}
use Rattle.std.proofs.lemmas.Iterator.{first_from_Range}
use Rattle.std.specs.Option.{MatchOption}
use Rattle.parts.specs.Sizes.{power_for, PowerOf}
use Rattle.parts.proofs.Powers.{power_first, power_nowhere, power_of}
use Rattle.parts.proofs.sizes.power_for.Goals as goal

-- the first that fits
abbrev First : ℕ → ℕ → Option ℕ → Type 0
First n part r = MatchOption r ((k : ℕ) → 4 ≤ k → k < 16 → n ≢ part * 2 ^ k) (λ i. (4 ≤ i) × (i < 16) × (n ≡ part * 2 ^ i) × ((k : ℕ) → 4 ≤ k → k < i → n ≢ part * 2 ^ k))

-- of the numbers from a to before b
within : (n part a b : ℕ) (r : Option ℕ) → a ≡ 4 → b ≡ 16 → MatchOption r ((k : ℕ) → a ≤ k → k < b → n ≢ part * 2 ^ k) (λ i. (a ≤ i) × (i < b) × (n ≡ part * 2 ^ i) × ((k : ℕ) → a ≤ k → k < i → n ≢ part * 2 ^ k)) → First n part r
within n part a b None e f h = λ k p q. h k (omega arith) (omega arith)
within n part a b (Some i) e f h = (omega (arith, h.0), omega (arith, h.1), h.2, λ k p q. h.3 k (omega arith) q)

first : (c : goal.After-find) → First c.args.n c.args.part c.find.result
first c =
    within c.args.n c.args.part _ _ c.find.result (omega arith) (omega arith)
    (first_from_Range _ _ _ _ (λ k. c.args.n ≡ c.args.part * 2 ^ k) (λ k. c.args.n ≢ c.args.part * 2 ^ k) c.find.ensures.ran (λ x q k. search (rules, tests)) (λ x q k. search (rules, tests)))

power_is : (n part : ℕ) (r : Option ℕ) → First n part r → r ≡ power_for n part
power_is n part None h = sym (power_nowhere 12 4 n part h)
power_is n part (Some i) h = sym (power_first 12 4 i n part h.0 h.1 h.2 h.3)

pub returns : goal.returns
returns c =
    let e : c.find.result ≡ power_for c.args.n c.args.part = power_is c.args.n c.args.part c.find.result (first c) in
    record { power = e; relation = subst (PowerOf c.args.n c.args.part) (sym e) (power_of c.args.n c.args.part) }
