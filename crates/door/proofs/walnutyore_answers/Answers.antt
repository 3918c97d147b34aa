use Rattle.std.proofs.Common.{rules, length}
use Rattle.door.proofs.Sizes.{printed_taken, printed_untaken}
use Rattle.door.proofs.walnutyore_answers.Goals as goal

pub returns-then-is_ok-clause-printed : goal.returns-then-is_ok-clause-printed
returns-then-is_ok-clause-printed c =
    printed_taken (length c.args.map.now) (length c.args.labels.now) (length c.args.starts.now) c.args.lines.now _ _ _ (search rules) c.answers_over.ensures

pub returns-else-is_ok-clause-printed : goal.returns-else-is_ok-clause-printed
returns-else-is_ok-clause-printed c =
    printed_untaken (length c.args.map.now) (length c.args.labels.now) (length c.args.starts.now) c.args.lines.now _ _ _ (search rules) c.answers_over-else-is_ok.ensures
