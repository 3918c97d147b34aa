use Rattle.std.proofs.Common.{rules}
use Rattle.label_stores.proofs.Reading.{no_meet, meet_there}
use Rattle.label_stores.proofs.lent.LentStoreLabelStore.meet.Goals as goal

pub returns-in_err-label : goal.returns-in_err-label
returns-in_err-label g c = search (rules, no_meet)

pub returns : goal.returns
returns g c = search (rules, meet_there)
