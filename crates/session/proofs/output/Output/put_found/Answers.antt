use Rattle.std.proofs.Common.{sym, ap}
use Rattle.session.specs.Texts.{found_with}
use Rattle.session.proofs.Laid.{joined}
use Rattle.session.proofs.Saying.{wrote_as}
use Rattle.session.proofs.output.Output.put_found.Goals as goal

pub returns-in-Some : goal.returns-in-Some
returns-in-Some c = wrote_as (ap (λ h. found_with h c.args.found.moves) (sym c.in-Some.is)) (joined (joined c.put_with.ensures c.put_with-in-Some.ensures) c.put_with-in-Some-2.ensures)
