use Rattle.std.proofs.Common.{arith}
use Rattle.sibling_map.specs.declared.shape.SiblingMap.{SiblingMap}
use Rattle.sibling_map.proofs.Facts.{count_is, facts_of}
use Rattle.sibling_map.proofs.map.SiblingMapNodeMap.count.Goals as goal

pub returns : goal.returns
returns c =
    let s : SiblingMap = c.args.self.now in
    record { count = omega (arith, count_is s.records.now s.later); facts = facts_of s }
