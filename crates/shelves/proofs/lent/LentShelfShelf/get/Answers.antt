use Rattle.std.proofs.Common.{rules}
use Rattle.shelves.proofs.Places.{get_at, get_past}
use Rattle.shelves.proofs.lent.LentShelfShelf.get.Goals as goal

pub returns-then-n-places : goal.returns-then-n-places
returns-then-n-places g c = search (rules, get_past)

pub returns : goal.returns
returns g c = search (rules, get_at)
