use Rattle.session.proofs.Listing.{outcome_none, outcome_more}
use Rattle.session.proofs.lists.put_lines.Goals as goal

pub loop-line-preserved : goal.loop-line-preserved
loop-line-preserved g c =
    let opens = rw c.in-Some.is at c.next.ensures.steps.first in
    λ d o q. c.loop-line.invariant d o (outcome_more _ _ _ opens c.put_line.ensures q)

pub returns : goal.returns
returns g c =
    let none = rw c.in-None.is at c.next.ensures.steps.first in
    c.loop-line.invariant _ _ (outcome_none _ _ _ none.0)
