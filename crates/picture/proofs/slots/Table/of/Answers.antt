use Rattle.std.proofs.Common.{rules}
use Rattle.std.proofs.iter.runs.Sources.{ranges}
use Rattle.picture.proofs.slots.Table.of.Goals as goal

pub overflow_shl-result : goal.overflow_shl-result
overflow_shl-result c = search (rules, ranges)
