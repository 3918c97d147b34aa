use Rattle.std.proofs.Common.{◌∙◌}
use Rattle.commands.proofs.Orders.{no_space, one_space, priced_is, no_amount, no_tag, both}
use Rattle.commands.proofs.reading.priced_tag.Goals as goal

pub returns-in_err-amount : goal.returns-in_err-amount
returns-in_err-amount c =
    rw c.from_residual.ensures
    (no_amount _ _ c.in_err-amount.ensures ∙ priced_is c.args.text.now _ _ _ c.place_of.ensures.place c.split_at.ensures.front c.split_at.ensures.back)

pub returns-in_err-tag : goal.returns-in_err-tag
returns-in_err-tag c =
    rw c.from_residual-in_err-tag.ensures
    (no_tag _ _ _ c.in_ok-amount.ensures (no_space _ c.in_err-tag.ensures.cases) ∙ priced_is c.args.text.now _ _ _ c.place_of.ensures.place c.split_at.ensures.front c.split_at.ensures.back)

pub returns : goal.returns
returns c =
    both _ _ _ _ c.in_ok-amount.ensures (one_space _ _ c.in_ok-tag.ensures.cases.0 c.in_ok-tag.ensures.cases.1)
    ∙ priced_is c.args.text.now _ _ _ c.place_of.ensures.place c.split_at.ensures.front c.split_at.ensures.back
