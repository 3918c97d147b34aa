use Rattle.std.proofs.Common.{◌+◌, ◌<◌}
use Prim.Native.Nat.{◌^◌}
use Rattle.speed.proofs.Finds.add_all.Given as goal

-- the number of the tags that are left, with those gone through, stays a `usize`
abbrev pub invariant-loop-number : goal.invariant-loop-number
invariant-loop-number g l =
    (goal.iterator-loop-number g).can_next l.tag-iterator ×
    (goal.iterator-loop-number g).is_finite l.tag-iterator ×
    l.number + (goal.iterator-loop-number g).remaining l.tag-iterator < 2 ^ 64
