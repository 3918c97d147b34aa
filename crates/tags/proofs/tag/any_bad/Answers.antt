use Rattle.tags.proofs.Bytes.{bad_more, bad_all}
use Rattle.tags.proofs.tag.any_bad.Goals as goal

pub loop-byte-preserved : goal.loop-byte-preserved
loop-byte-preserved c = bad_more c.args.bytes.now c.loop-byte.byte-index c.loop-byte.bad c.is_bad-bad.result c.loop-byte-test.true c.is_bad-bad.ensures c.loop-byte.invariant

pub returns : goal.returns
returns c = bad_all c.args.bytes.now c.loop-byte.byte-index c.loop-byte.bad c.loop-byte-test.false c.loop-byte.invariant
