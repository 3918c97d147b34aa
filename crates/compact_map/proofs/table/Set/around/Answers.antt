use Rattle.std.proofs.Common.{ℕ, ◌-◌, ◌%◌, sym, ap, ◌∙◌}
use lib.Bits.{bit_and, and_mask}
use Rattle.compact_map.proofs.table.Set.around.Goals as goal

pub returns : goal.returns
returns c = ap (λ (m : ℕ). bit_and c.args.i (m - 1)) c.args.self.wide ∙ and_mask c.args.i c.args.self.log ∙ ap (λ (m : ℕ). c.args.i % m) (sym c.args.self.wide)
