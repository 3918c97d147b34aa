use Rattle.std.proofs.Common.{arith}
use Rattle.dictionary.proofs.Answered.{stepped_more, stepped_end, stepped_all}
use Rattle.dictionary.proofs.descent.steps_down.Goals as goal

pub loop-moves-preserved : goal.loop-moves-preserved
loop-moves-preserved g c = λ h.
    let s = c.loop-moves.invariant h in
    stepped_more _ _ _ _ _ _ _ _ (omega arith) (omega arith) s c.step_symbol.ensures (c.in-Some.ensures s.inside (omega arith))

pub returns-in-None : goal.returns-in-None
returns-in-None g c = record {
  moves = omega arith;
  reached = λ h.
      let s = c.loop-moves.invariant h in
      stepped_end _ _ _ _ _ _ (omega arith) s c.step_symbol.ensures (c.in-None.ensures s.inside (omega arith));
}

pub returns : goal.returns
returns g c = record { moves = omega arith; reached = λ h. stepped_all _ _ _ _ _ (omega arith) (c.loop-moves.invariant h) }
