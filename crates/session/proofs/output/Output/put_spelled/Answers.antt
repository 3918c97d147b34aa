use Rattle.std.proofs.Common.{take, ap, ◌∙◌}
use Rattle.std.proofs.lemmas.List.{take_min}
use Rattle.session.proofs.Laid.{joined}
use Rattle.session.proofs.Saying.{wrote_as}
use Rattle.session.proofs.output.Output.put_spelled.Goals as goal

pub returns : goal.returns
returns c = joined c.put.ensures (wrote_as (ap (λ n. take n c.args.buffer.now) c.min.ensures ∙ take_min c.args.length c.args.buffer.now) c.put-2.ensures)
