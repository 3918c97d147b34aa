use Rattle.std.proofs.Common.{rules}
use Rattle.session.proofs.Totals.{printed_either}
use Rattle.session.proofs.serve.print_list.Goals as goal

pub returns : goal.returns
returns g c = search (rules, printed_either)
