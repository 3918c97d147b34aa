use Rattle.std.proofs.Common.{rules}
use Rattle.shelves.proofs.Elements.{fresh_is, fresh_blank}
use Rattle.shelves.proofs.lent.LentShelf.new.Goals as goal

pub returns : goal.returns
returns g c = let laws = g.met.E.Element.laws in search (rules, fresh_is laws, fresh_blank laws)
