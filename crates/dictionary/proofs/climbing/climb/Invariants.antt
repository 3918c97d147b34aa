use Rattle.std.proofs.Common.{◌≡◌, ◌≤◌, length, drop}
use Rattle.rules.specs.declared.step.Step.TheVariants.{By32}
use Rattle.parts.specs.Maps.{MapFacts}
use Rattle.dictionary.specs.Spelling.{Ticketed}
use Rattle.dictionary.proofs.Ascent.{Climbs}
use Rattle.dictionary.proofs.climbing.climb.Given as goal

abbrev pub invariant-loop-end : goal.invariant-loop-end
invariant-loop-end g l =
    (length l.word ≡ 201) × (l.end ≤ 201) × MapFacts By32 (g.M.NodeMap.meaning l.map)
    × ((t : Ticketed (g.M.NodeMap.meaning l.map) (g.L.LabelStore.meaning l.store) l.ticket)
    → Climbs (g.M.NodeMap.meaning l.map) (g.L.LabelStore.meaning l.store) l.ticket t l.node l.i (drop l.end l.word))

abbrev pub decreases-loop-end : goal.decreases-loop-end
decreases-loop-end g l = l.node
