use Rattle.std.proofs.Common.{arith}
use Rattle.dictionary.proofs.Fresh.{blank_all}
use Rattle.dictionary.proofs.opening.blank.Goals as goal

pub returns : goal.returns
returns g c = blank_all _ _ _ c.loop-n.invariant.0 (omega arith) c.loop-n.invariant.1
