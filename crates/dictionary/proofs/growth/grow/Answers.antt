use Rattle.std.proofs.Common.{◌∙◌, arith}
use Rattle.dictionary.proofs.Growing.{growing_more, growing_end, can_step, can_last}
use Rattle.dictionary.proofs.growth.grow.Goals as goal

pub loop-preserved : goal.loop-preserved
loop-preserved g c = (
  λ can.
      let s = c.loop.invariant.0 can in
      let e = c.step_symbol.ensures in
      growing_more _ _ _ _ _ _ _ _ _ _ s _ _ _ _ (omega arith) (omega arith) _ e (c.make_node-node.ensures.made (can_step _ _ _ _ _ _ s.can (omega arith) _ e)),
  c.make_node-node.ensures.stays ∙ c.loop.invariant.1,
)

pub returns : goal.returns
returns g c = record {
  grown = λ can.
      let s = c.loop.invariant.0 can in
      growing_end _ _ _ _ _ _ _ _ _ _ s _ _ _ (omega arith) (c.make_node.ensures.made (can_last _ _ _ _ _ _ s.can (omega arith)));
  stays = c.make_node.ensures.stays ∙ c.loop.invariant.1;
}
