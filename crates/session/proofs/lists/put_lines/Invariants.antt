use Rattle.commands.specs.Lines.{lines}
use Rattle.session.specs.declared.output.Output.{Output}
use Rattle.session.specs.Outcomes.{HasOutcome, lines_outcome}
use Rattle.session.proofs.lists.put_lines.Given as goal

-- the outcome of the lines that are left, from here on, is the outcome of all from the start
abbrev pub invariant-loop-line : goal.invariant-loop-line
invariant-loop-line g l = (d : g.row.D.Denot) (o : Output)
    → HasOutcome g.D.DictionaryCalls.shows g.D.DictionaryCalls.extent g.D.DictionaryCalls.unfit (lines_outcome (lines l.line-iterator.text.now)) l.d l.output d o
    → HasOutcome g.D.DictionaryCalls.shows g.D.DictionaryCalls.extent g.D.DictionaryCalls.unfit (lines_outcome (lines l.text)) l.initial.d l.initial.output d o
