use Rattle.std.proofs.Common.{rules}
use Rattle.commands.specs.Commands.{order_by, after_space}
use Rattle.commands.proofs.Orders.{spaced_line, letter_alone, empty_line, other_alone, unspaced_line, other_line}
use Rattle.commands.proofs.reading.command_in.Goals as goal
use Rattle.commands.proofs.reading.command_in.Goals.{in_default-via-then-line-lt1, in_default-via-else-line-lt1+then-line-lt2+in_default-1, in_default-via-else-line-lt1+else-line-lt2+in-69+in_default-1, in_default-via-else-line-lt1+else-line-lt2+in-67+in_default-1, in_default-via-else-line-lt1+else-line-lt2+in-70+in_default-1, in_default-via-else-line-lt1+else-line-lt2+in-83+in_default-1, in_default-via-else-line-lt1+else-line-lt2+in-80+in_default-1, in_default-via-else-line-lt1+else-line-lt2+in_default-1}

pub returns-in-69 : goal.returns-in-69
unfolding order_by after_space
returns-in-69 c = let p = c.priced_tag.ensures in let h = spaced_line c.args.line.now 69 (search rules) (search rules) (search rules) in search rules

pub returns-in-67 : goal.returns-in-67
unfolding order_by after_space
returns-in-67 c = let p = c.priced_tag-in-67.ensures in let h = spaced_line c.args.line.now 67 (search rules) (search rules) (search rules) in search rules

pub returns-in-70 : goal.returns-in-70
unfolding order_by after_space
returns-in-70 c = spaced_line c.args.line.now 70 (search rules) (search rules) (search rules)

pub returns-in-83 : goal.returns-in-83
unfolding order_by after_space
returns-in-83 c = spaced_line c.args.line.now 83 (search rules) (search rules) (search rules)

pub returns-in-80 : goal.returns-in-80
unfolding order_by after_space
returns-in-80 c = let n = c.read_number.ensures in let h = spaced_line c.args.line.now 80 (search rules) (search rules) (search rules) in search rules

pub returns-in-68 : goal.returns-in-68
unfolding order_by
returns-in-68 c = letter_alone c.args.line.now 68 (search rules) (search rules) (search rules)

pub returns-in_default : goal.returns-in_default
returns-in_default c = let line = c.args.line.now in elim c.in_default.branch [
  | in_default-via-then-line-lt1 w ↦ empty_line line (search rules)
  | in_default-via-else-line-lt1+then-line-lt2+in_default-1 w ↦ other_alone line (search rules) (search rules) (search rules)
  | in_default-via-else-line-lt1+else-line-lt2+in-69+in_default-1 w ↦ unspaced_line line (search rules) (search rules)
  | in_default-via-else-line-lt1+else-line-lt2+in-67+in_default-1 w ↦ unspaced_line line (search rules) (search rules)
  | in_default-via-else-line-lt1+else-line-lt2+in-70+in_default-1 w ↦ unspaced_line line (search rules) (search rules)
  | in_default-via-else-line-lt1+else-line-lt2+in-83+in_default-1 w ↦ unspaced_line line (search rules) (search rules)
  | in_default-via-else-line-lt1+else-line-lt2+in-80+in_default-1 w ↦ unspaced_line line (search rules) (search rules)
  | in_default-via-else-line-lt1+else-line-lt2+in_default-1 w ↦ other_line line (search rules) (search rules) (search rules) (search rules) (search rules) (search rules)
]
