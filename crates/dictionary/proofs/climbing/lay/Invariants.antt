use Rattle.std.proofs.Common.{◌≡◌, ◌+◌, ◌<◌, ◌≤◌, ◌++◌, length, take, drop}
use Rattle.parts.specs.Stores.{label_at}
use Rattle.dictionary.proofs.climbing.lay.Given as goal

abbrev pub invariant-loop-i : goal.invariant-loop-i
invariant-loop-i g l =
    l.v < length (g.L.LabelStore.meaning l.store).labels → l.n ≤ length (label_at (g.L.LabelStore.meaning l.store) l.v)
    → drop l.at l.word ≡ take l.i (label_at (g.L.LabelStore.meaning l.store) l.v) ++ drop (l.at + l.i) l.initial.word
