use Rattle.compact_map.specs.Table.{slot_at}
use Rattle.compact_map.proofs.Search.{Passed}
use Rattle.compact_map.proofs.table.View.find_from.Given as goal

abbrev pub invariant-loop-d : goal.invariant-loop-d
invariant-loop-d l = Passed l.self.set.slots (slot_at l.self.bytes.now l.self.set.start) l.home l.quotient l.d
