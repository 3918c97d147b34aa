use Rattle.std.proofs.Common.{ap, ◌∙◌}
use Rattle.std.proofs.lemmas.Result.{err_from_is_err_and}
use Rattle.std.specs.Option.{ok_or}
use Rattle.tags.specs.declared.refusal.Refusal.TheVariants.{NoLiveRow}
use Rattle.dictionary.proofs.Answered.{err_is}
use Rattle.dictionary.proofs.Taking.{held_answer, absent_answer, refused_answer}
use Rattle.dictionary.proofs.dictionary.Dictionary.live.Goals as goal

pub returns-in_err-found-clause-answer : goal.returns-in_err-found-clause-answer
returns-in_err-found-clause-answer g c = λ t b sh.
    let p = err_from_is_err_and c.from_residual.result c.from_residual.ensures.1 in
    rw (p.1, p.2) (refused_answer b _ _ (c.in_err-found.ensures.answer b (t, sh)))

pub returns-in_err-row-clause-answer : goal.returns-in_err-row-clause-answer
returns-in_err-row-clause-answer g c = λ t b sh.
    let p = err_from_is_err_and c.from_residual-in_err-row.result c.from_residual-in_err-row.ensures.1 in
    let why = err_is (c.in_err-row.ensures.value ∙ ap (λ held. ok_or held NoLiveRow) c.in_err-row.ensures.ok_part) in
    rw (p.1, p.2, why) (absent_answer b _ _ (c.in_ok-found.ensures.answer b (t, sh)) c.in_err-row.ensures.ok_part)

pub returns-clause-answer : goal.returns-clause-answer
returns-clause-answer g c = λ t b sh. held_answer b _ _ (c.in_ok-found.ensures.answer b (t, sh)) _ c.in_ok-row.ensures.ok_part
