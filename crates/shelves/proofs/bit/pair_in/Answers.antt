use Rattle.std.proofs.Common.{rules}
use Rattle.shelves.proofs.Shifts.{pair_shifted}
use Rattle.shelves.proofs.bit.pair_in.Goals as goal

pub returns : goal.returns
returns c = search (rules, pair_shifted)
