use Rattle.std.proofs.Common.{◌*◌, arith}
use Rattle.compact_map.proofs.Clearing.{zero_filled}
use Rattle.compact_map.proofs.table.Set.clear.Goals as goal

pub returns : goal.returns
returns c =
    zero_filled c.args.self.log c.args.self.large c.args.self.start (6 * c.args.self.slots) c.args.bytes.now c.fill.new.self (omega arith) c.args.self.begins (omega arith) (omega arith)
    (c.fill.ensures.after (λ y k. k))
