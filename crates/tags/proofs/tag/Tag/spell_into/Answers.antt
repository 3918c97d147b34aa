use Rattle.std.proofs.Common.{arith}
use Rattle.tags.proofs.Closing.{closed}
use Rattle.tags.proofs.Forms.{few_bytes}
use Rattle.tags.proofs.tag.Tag.spell_into.Goals as goal

pub returns-clause-bytes : goal.returns-clause-bytes
returns-clause-bytes c = closed c.args.self.now.bytes.now _ c.args.bytes.now c.copy_from_slice.ensures.after (omega (arith, few_bytes c.args.self.now.bytes.now c.args.self.now.form))
