use Rattle.std.proofs.Common.{eqb, drop, length-drop, arith}
use Rattle.std.proofs.lemmas.Bool.{eq-eqb, ne_eqb}
use Rattle.std.proofs.lemmas.List.Sums.{common_prefix_len-le, common_prefix_len-drop_yes, common_prefix_len-drop_no}
use Rattle.label_stores.proofs.Agreement.{shared_is}
use Rattle.label_stores.proofs.labels.shared_front.Goals as goal

pub returns-then-a-i : goal.returns-then-a-i
returns-then-a-i c =
    omega (arith, shared_is c.args.a.now c.args.b.now, common_prefix_len-drop_no eqb c.args.a.now c.args.b.now c.loop-i.i 0 0 (omega arith) (omega arith) (ne_eqb _ _ c.if-a-i.true))

pub loop-i-preserved : goal.loop-i-preserved
loop-i-preserved c =
    omega (arith, common_prefix_len-drop_yes eqb c.args.a.now c.args.b.now c.loop-i.i 0 0 (omega arith) (omega arith) (eq-eqb _ _ c.if-a-i.false))

pub returns : goal.returns
returns c =
    let rest = common_prefix_len-le eqb (drop c.loop-i.i c.args.a.now) (drop c.loop-i.i c.args.b.now) in
    omega (arith, shared_is c.args.a.now c.args.b.now, rest, length-drop c.loop-i.i c.args.a.now, length-drop c.loop-i.i c.args.b.now)
