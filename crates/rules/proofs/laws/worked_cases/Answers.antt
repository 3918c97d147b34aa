use Rattle.rules.proofs.Cases.{worked_cases}
use Rattle.rules.proofs.laws.worked_cases.Goals as goal

pub returns : goal.returns
returns c = worked_cases
