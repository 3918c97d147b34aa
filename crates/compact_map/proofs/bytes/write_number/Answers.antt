use Rattle.std.proofs.Common.{arith}
use Rattle.compact_map.proofs.Numbers.{write_word}
use Rattle.compact_map.proofs.bytes.write_number.Goals as goal

pub returns : goal.returns
returns g c =
    write_word c.args.bytes.now c.to_be_bytes-word.result c.copy_from_slice.new.self c.args.at c.args.number g.row.N (omega arith) c.requires.inside c.to_be_bytes-word.ensures
    c.copy_from_slice.ensures.after
