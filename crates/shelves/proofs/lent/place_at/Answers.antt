use Rattle.std.proofs.Common.{rules}
use Rattle.shelves.proofs.Elements.{in_list, look_at}
use Rattle.shelves.proofs.lent.place_at.Goals as goal

pub offset_bounds-elements-n : goal.offset_bounds-elements-n
offset_bounds-elements-n g c = search (rules, in_list g.met.E.Element.laws)

pub bounds-elements-n : goal.bounds-elements-n
bounds-elements-n g c = search (rules, in_list g.met.E.Element.laws)

pub returns : goal.returns
returns g c = search (rules, look_at g.met.E.Element.laws)
