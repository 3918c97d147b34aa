use Rattle.std.proofs.Common.{◌≡◌}
use Rattle.label_stores.specs.Leads.{head_at}
use Rattle.label_stores.proofs.grouped.walk.Given as goal

abbrev pub invariant-loop : goal.invariant-loop
invariant-loop l = l.head ≡ head_at l.bytes l.counter
