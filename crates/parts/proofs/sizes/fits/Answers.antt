use Rattle.std.proofs.Common.{arith}
use Rattle.std.proofs.lemmas.Nat.{one_shl}
use Rattle.parts.proofs.Powers.{tested, not_whole}
use Rattle.parts.proofs.sizes.fits.Goals as goal

pub returns-then-n-k-eq0 : goal.returns-then-n-k-eq0
returns-then-n-k-eq0 c = tested c.args.n c.args.part c.args.k _ (one_shl c.args.k 64 (omega arith)) c.if-n-k-eq0.true

pub returns-else-n-k-eq0 : goal.returns-else-n-k-eq0
returns-else-n-k-eq0 c = not_whole c.args.n c.args.part c.args.k _ (one_shl c.args.k 64 (omega arith)) c.if-n-k-eq0.false
