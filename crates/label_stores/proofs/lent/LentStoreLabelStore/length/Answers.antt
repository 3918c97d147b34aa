use Rattle.std.proofs.Common.{rules}
use Rattle.label_stores.proofs.Reading.{no_length, length_there}
use Rattle.label_stores.proofs.lent.LentStoreLabelStore.length.Goals as goal

pub returns : goal.returns
returns g c = search (rules, no_length, length_there)
