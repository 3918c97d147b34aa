use Rattle.rules.proofs.Agreement.{descent_matches_book}
use Rattle.rules.proofs.Finds.{finds_count_moves}
use Rattle.rules.proofs.laws.finds_count_moves.Goals as goal

pub returns : goal.returns
returns g c = finds_count_moves descent_matches_book
