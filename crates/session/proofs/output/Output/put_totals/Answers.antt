use Rattle.session.proofs.Laid.{joined}
use Rattle.session.proofs.output.Output.put_totals.Goals as goal

pub returns : goal.returns
returns c = joined (joined c.put_with.ensures c.put_with-2.ensures) c.put.ensures
