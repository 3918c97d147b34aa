use Rattle.std.proofs.Common.{Some}
use Rattle.std.proofs.lemmas.Result.{err_from_is_err_and}
use Rattle.dictionary.proofs.Taking.{did_live, did_dead}
use Rattle.dictionary.proofs.serving.DictionaryDictionaryCalls.change.Goals as goal

pub returns-clause-answer : goal.returns-clause-answer
returns-clause-answer g c = λ b sh. let live = c.in_ok-ticket.ensures in (did_live _ _ _ b sh.1 c.args.tag.now (Some c.args.value) live.facts _ (live.answer sh.0 b sh.1) _ c.put.ensures.next).says

pub returns-clause-next : goal.returns-clause-next
returns-clause-next g c = λ b sh. let live = c.in_ok-ticket.ensures in (sh.0, (did_live _ _ _ b sh.1 c.args.tag.now (Some c.args.value) live.facts _ (live.answer sh.0 b sh.1) _ c.put.ensures.next).shows)

pub returns-in_err-ticket-clause-answer : goal.returns-in_err-ticket-clause-answer
returns-in_err-ticket-clause-answer g c = λ b sh.
    let p = err_from_is_err_and c.from_residual.result c.from_residual.ensures.1 in
    rw (p.1, p.2) (did_dead _ _ _ b sh.1 c.args.tag.now (Some c.args.value) _ (c.in_err-ticket.ensures.answer sh.0 b sh.1)).says

pub returns-in_err-ticket-clause-next : goal.returns-in_err-ticket-clause-next
returns-in_err-ticket-clause-next g c = λ b sh. (sh.0, (did_dead _ _ _ b sh.1 c.args.tag.now (Some c.args.value) _ (c.in_err-ticket.ensures.answer sh.0 b sh.1)).shows)
