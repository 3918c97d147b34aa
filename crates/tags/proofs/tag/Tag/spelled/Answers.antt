use Rattle.std.proofs.Common.{◌∙◌}
use Rattle.tags.proofs.Closing.{zeros_behind}
use Rattle.tags.proofs.Forms.{few_bytes}
use Rattle.tags.proofs.tag.Tag.spelled.Goals as goal

pub returns-clause-bytes : goal.returns-clause-bytes
returns-clause-bytes c = c.spell_into-len.ensures.bytes ∙ zeros_behind c.args.self.now.bytes.now (few_bytes c.args.self.now.bytes.now c.args.self.now.form)
