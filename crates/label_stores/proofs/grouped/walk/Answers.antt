use Rattle.std.proofs.Common.{sym, ap, ◌∙◌, arith}
use Rattle.label_stores.specs.Leads.{end_from}
use Rattle.label_stores.proofs.Leads.{end_within, head_more}
use Rattle.label_stores.proofs.grouped.walk.Goals as goal

pub end_of-head-requires : goal.end_of-head-requires
end_of-head-requires c = end_within c.args.bytes.now c.loop.head c.loop.counter c.args.to c.loop.invariant (omega arith) (omega arith)

pub loop-preserved : goal.loop-preserved
loop-preserved c = c.end_of-head.ensures.end ∙ ap (end_from c.args.bytes.now) c.loop.invariant ∙ sym (head_more c.args.bytes.now c.loop.counter)
