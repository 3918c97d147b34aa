use Rattle.std.proofs.Common.{sym, refl, arith}
use Rattle.parts.proofs.Powers.{rooms_end}
use Rattle.parts.proofs.Answered.{double_last}
use Rattle.compact_map.specs.declared.shape.CompactMap.{CompactMap}
use Rattle.compact_map.specs.Meaning.{capacity, meaning_of}
use Rattle.compact_map.proofs.Meant.{memory_same}
use Rattle.compact_map.proofs.map.CompactMapNodeMap.double.Goals as goal

pub returns-then-self : goal.returns-then-self
returns-then-self c =
    let s : CompactMap = c.args.self.now in
    let d = double_last (meaning_of s) (rooms_end capacity s.set.log s.top (omega arith)) in
    record { answer = sym d.0; next = sym d.1; kept = λ e. refl; memory = memory_same s; lender = refl }
