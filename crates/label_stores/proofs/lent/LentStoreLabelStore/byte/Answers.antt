use Rattle.std.proofs.Common.{rules}
use Rattle.label_stores.proofs.Reading.{no_byte, byte_there}
use Rattle.label_stores.proofs.lent.LentStoreLabelStore.byte.Goals as goal

pub returns-in_err-label : goal.returns-in_err-label
returns-in_err-label g c = search (rules, no_byte)

pub returns : goal.returns
returns g c = search (rules, byte_there)
