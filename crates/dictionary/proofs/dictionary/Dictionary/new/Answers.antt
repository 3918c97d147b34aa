use Rattle.std.proofs.Common.{sym, ◌∙◌, rules}
use Rattle.dictionary.proofs.Fresh.{fresh_shows}
use Rattle.dictionary.proofs.dictionary.Dictionary.new.Goals as goal
use Rattle.dictionary.proofs.dictionary.Dictionary.new.Goals.{then-is_ok, else-is_ok}

pub returns-clause-shows : goal.returns-clause-shows
returns-clause-shows g c = λ o. elim c.if-is_ok.branch [
  | then-is_ok w ↦ rw w.parts-is (fresh_shows _ _ _ _ (sym c.check_parts-opened.ensures ∙ o) w.blank.ensures)
  | else-is_ok w ↦ search rules
]
