use Rattle.std.proofs.Common.{sym, ap, ◌∙◌}
use Rattle.parts.proofs.Powers.{rooms_last}
use Rattle.compact_map.specs.declared.shape.CompactMap.{CompactMap}
use Rattle.compact_map.specs.Meaning.{capacity}
use Rattle.compact_map.proofs.map.CompactMapNodeMap.last_room.Goals as goal

pub returns : goal.returns
returns c =
    let s : CompactMap = c.args.self.now in
    c.room_of.ensures ∙ ap capacity s.wide ∙ sym (rooms_last capacity s.set.log s.top s.rooms)
