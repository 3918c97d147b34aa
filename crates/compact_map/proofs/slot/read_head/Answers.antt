use Rattle.std.proofs.Common.{arith}
use Rattle.compact_map.proofs.Numbers.{first_four}
use Rattle.compact_map.proofs.slot.read_head.Goals as goal

pub returns-clause-is : goal.returns-clause-is
returns-clause-is c =
    omega (arith, c.from_be_bytes.ensures, first_four c.args.bytes.now c.copy_from_slice.new.self c.args.at (λ k. omega (arith, c.type_inv.bytes k)) c.copy_from_slice.ensures.after)
