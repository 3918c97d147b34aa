use Rattle.std.proofs.Common.{rules}
use Rattle.shelves.proofs.Elements.{in_list, set_at}
use Rattle.shelves.proofs.lent.set_place.Goals as goal

pub offset_bounds-elements-n : goal.offset_bounds-elements-n
offset_bounds-elements-n g c = search (rules, in_list g.met.E.Element.laws)

pub bounds-elements-n : goal.bounds-elements-n
bounds-elements-n g c = search (rules, in_list g.met.E.Element.laws)

pub returns : goal.returns
returns g c = search (rules, set_at g.met.E.Element.laws)
