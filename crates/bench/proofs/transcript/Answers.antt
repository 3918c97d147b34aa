use Rattle.bench.proofs.Fresh.{whole}
use Rattle.bench.proofs.transcript.Goals as goal

pub returns : goal.returns
returns c = whole _ _ _ _ _ _ _ _ c.print_bench-length.ensures c.print_bench.ensures c.in_ok-out.ensures.len c.deref_mut.ensures.len
