use Rattle.rules.proofs.Agreement.{descent_matches_book}
use Rattle.rules.proofs.laws.descent_matches_book.Goals as goal

pub returns : goal.returns
returns g c = descent_matches_book
