use Rattle.std.proofs.Common.{refl}
use Rattle.commands.proofs.Places.{no_line, first_cut}
use Rattle.commands.proofs.lines.first_line.Goals as goal

pub returns-then-is_empty : goal.returns-then-is_empty
returns-then-is_empty c = no_line c.args.text.now c.if-is_empty.ensures

pub returns : goal.returns
returns c = first_cut c.args.text.now _ c.split_at.result.1.now _ _ _ c.get.result c.place_of.ensures.place c.if-is_empty.ensures c.split_at.ensures.front c.split_at.ensures.back c.get.ensures.lookup refl c.unwrap_or.ensures
