use Rattle.std.proofs.Common.{◌≡◌, ◌+◌, eqb, drop}
use Rattle.std.specs.List.{common_prefix_len}
use Rattle.label_stores.proofs.labels.shared_front.Given as goal

abbrev pub invariant-loop-i : goal.invariant-loop-i
invariant-loop-i l = common_prefix_len eqb l.a l.b ≡ l.i + common_prefix_len eqb (drop l.i l.a) (drop l.i l.b)
