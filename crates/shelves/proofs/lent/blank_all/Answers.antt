use Rattle.std.proofs.Common.{rules}
use Rattle.shelves.proofs.lent.blank_all.Goals as goal

pub fill-requires : goal.fill-requires
fill-requires g c = search (rules, g.met.E.Element.clones)

pub returns : goal.returns
returns g c =
    rw c.BLANK.ensures at c.fill.ensures.after g.met.E.Element.clones.1
