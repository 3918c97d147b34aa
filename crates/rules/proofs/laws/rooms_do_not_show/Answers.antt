use Rattle.rules.proofs.Rooms.{rooms_do_not_show}
use Rattle.rules.proofs.laws.rooms_do_not_show.Goals as goal

pub returns : goal.returns
returns g c = rooms_do_not_show
