use Rattle.std.proofs.Common.{◌≡◌, ℕ, ◌/◌, ◌^◌, ap, arith}
use Rattle.rules.specs.declared.step.Step.TheVariants.{By32}
use Rattle.compact_map.specs.Hash.{quotient_of}
use Rattle.compact_map.proofs.HeldKeys.{quotient_lt}
use Rattle.compact_map.proofs.table.Set.home_and_quotient.Goals as goal

pub overflow_cast-result-2 : goal.overflow_cast-result-2
overflow_cast-result-2 c =
    let e : c.hash-h.result / 2 ^ c.args.self.log ≡ quotient_of By32 c.args.self.log c.args.key = ap (λ (x : ℕ). x / 2 ^ c.args.self.log) c.hash-h.ensures in
    omega (arith, quotient_lt c.args.self.log c.args.key)
