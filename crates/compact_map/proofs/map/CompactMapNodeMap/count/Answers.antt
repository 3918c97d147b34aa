use Rattle.std.proofs.Common.{arith}
use Rattle.compact_map.specs.declared.shape.CompactMap.{CompactMap}
use Rattle.compact_map.proofs.Meant.{count_is, facts_of, memory_same}
use Rattle.compact_map.proofs.map.CompactMapNodeMap.count.Goals as goal

pub returns : goal.returns
returns c =
    let s : CompactMap = c.args.self.now in
    record { count = omega (arith, count_is s); facts = facts_of s; memory = memory_same s }
