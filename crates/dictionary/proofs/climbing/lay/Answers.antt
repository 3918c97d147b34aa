use Rattle.std.proofs.Common.{arith}
use Rattle.parts.specs.Stores.{label_at}
use Rattle.dictionary.proofs.Laying.{laid_more}
use Rattle.dictionary.proofs.climbing.lay.Goals as goal

pub loop-i-preserved : goal.loop-i-preserved
loop-i-preserved g c = λ h k.
    laid_more (label_at (g.L.LabelStore.meaning c.args.store.now) c.args.v) c.loop-i.word c.args.word.now _ c.loop-i.i c.byte_at.result
    (omega arith) (omega arith) (c.byte_at.ensures h (omega arith)) (c.loop-i.invariant h k)
