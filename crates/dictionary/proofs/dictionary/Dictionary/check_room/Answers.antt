use Rattle.std.proofs.Common.{arith}
use Rattle.dictionary.proofs.Entry.{room_small}
use Rattle.dictionary.proofs.dictionary.Dictionary.check_room.Goals as goal

pub overflow_add-count : goal.overflow_add-count
overflow_add-count g c = let f = c.count.ensures.facts in omega (arith, f.fits, room_small _ _ f.rooms)
