use Rattle.std.proofs.Common.{◌+◌, ◌-◌, ◌≤◌}
use Rattle.rules.specs.declared.step.Step.TheVariants.{By32}
use Rattle.compact_map.specs.Table.{key_in, Filled}
use Rattle.compact_map.proofs.table.Set.double.Given as goal

abbrev pub invariant-loop-v : goal.invariant-loop-v
invariant-loop-v l = record {
  near : l.v ≤ l.n + 1;
  filled : Filled By32 (l.self.log + 1) l.self.large (key_in By32 l.initial.bytes l.self.log l.self.large) (l.v - 1) l.initial.bytes l.bytes;
}
