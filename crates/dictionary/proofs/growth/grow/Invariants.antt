use Rattle.std.proofs.Common.{◌≡◌, ◌-◌}
use Rattle.dictionary.specs.Growth.{CanGrow}
use Rattle.dictionary.proofs.Growing.{Growing}
use Rattle.dictionary.proofs.growth.grow.Given as goal

abbrev pub invariant-loop : goal.invariant-loop
invariant-loop g l =
    (CanGrow (g.M.NodeMap.meaning l.initial.map) (g.L.LabelStore.meaning l.initial.store) l.gap.node l.gap.missing l.gap.symbol l.gap.label.now
    → Growing (g.M.NodeMap.meaning l.initial.map) (g.L.LabelStore.meaning l.initial.store) l.gap.node l.gap.missing l.gap.symbol l.gap.label.now
    (g.M.NodeMap.meaning l.map) (g.L.LabelStore.meaning l.store) l.node (l.gap.missing - l.counter))
    × ((g.L.LabelStore.meaning l.store).places ≡ (g.L.LabelStore.meaning l.initial.store).places)
