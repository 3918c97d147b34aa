use Rattle.std.proofs.Common.{rules}
use Rattle.session.proofs.Laid.{joined}
use Rattle.session.proofs.Saying.{wrote_as}
use Rattle.session.proofs.output.Output.put_with.Goals as goal

pub returns : goal.returns
returns c = joined c.put.ensures (wrote_as (search rules) c.put-2.ensures)
