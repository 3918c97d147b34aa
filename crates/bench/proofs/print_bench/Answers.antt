use Rattle.std.proofs.Common.{rules, ℕ, List, subst}
use Rattle.session.specs.Output.{Printed}
use Rattle.bench.proofs.Fresh.{at_sizes}
use Rattle.bench.proofs.print_bench.Goals as goal

pub returns : goal.returns
returns c = subst (λ (t : List ℕ). Printed t c.args.out.now c.print_list.new.out c.print_list.result) (at_sizes c.args.text.now) (search rules)
