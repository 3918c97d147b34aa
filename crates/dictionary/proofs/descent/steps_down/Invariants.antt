use Rattle.std.proofs.Common.{◌-◌, ◌<◌}
use Rattle.parts.specs.Maps.{count_of}
use Rattle.dictionary.proofs.Answered.{Stepped}
use Rattle.dictionary.proofs.descent.steps_down.Given as goal

abbrev pub invariant-loop-moves : goal.invariant-loop-moves
invariant-loop-moves g l =
    l.u < count_of (g.M.NodeMap.meaning l.map) → Stepped (g.M.NodeMap.meaning l.map).edges l.k l.u (l.k - l.moves) l.node
