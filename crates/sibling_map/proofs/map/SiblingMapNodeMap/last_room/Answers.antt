use Rattle.std.proofs.Common.{sym, ◌∙◌}
use Rattle.parts.proofs.Powers.{rooms_last}
use Rattle.sibling_map.specs.declared.shape.SiblingMap.{SiblingMap}
use Rattle.sibling_map.specs.Meaning.{capacity}
use Rattle.sibling_map.proofs.map.SiblingMapNodeMap.last_room.Goals as goal

pub returns : goal.returns
returns c =
    let s : SiblingMap = c.args.self.now in
    c.room_at.ensures ∙ sym (rooms_last capacity s.log s.top s.rooms)
