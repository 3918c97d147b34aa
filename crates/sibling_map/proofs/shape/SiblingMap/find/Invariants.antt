use Rattle.sibling_map.specs.Records.{edges_in}
use Rattle.sibling_map.proofs.Newest.{Walk, top}
use Rattle.sibling_map.proofs.shape.SiblingMap.find.Given as goal

abbrev pub invariant-loop-at : goal.invariant-loop-at
invariant-loop-at l = Walk (edges_in l.self.records.now l.self.later) l.u l.c l.at

abbrev pub decreases-loop-at : goal.decreases-loop-at
decreases-loop-at l = top l.at
