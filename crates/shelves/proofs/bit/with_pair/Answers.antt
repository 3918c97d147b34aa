use Rattle.std.proofs.Common.{rules}
use Rattle.shelves.proofs.Shifts.{pair_masked}
use Rattle.shelves.proofs.bit.with_pair.Goals as goal

pub returns : goal.returns
returns c = search (rules, pair_masked)
