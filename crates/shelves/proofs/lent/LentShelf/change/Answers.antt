use Rattle.std.proofs.Common.{rules}
use Rattle.std.proofs.lemmas.List.{set_past}
use Rattle.shelves.proofs.Elements.{set_beyond}
use Rattle.shelves.proofs.Places.{set_answer_at, set_answer_past}
use Rattle.shelves.proofs.lent.LentShelf.change.Goals as goal

pub returns-then-n-places : goal.returns-then-n-places
returns-then-n-places g c = search (rules, set_past, set_answer_past, set_beyond g.met.E.Element.laws)

pub returns : goal.returns
returns g c = let laws = g.met.E.Element.laws in search (rules, set_answer_at, laws.next)
