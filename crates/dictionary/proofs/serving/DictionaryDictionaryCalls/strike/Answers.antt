use Rattle.std.proofs.Common.{None}
use Rattle.dictionary.proofs.Taking.{did_live, did_dead}
use Rattle.dictionary.proofs.serving.DictionaryDictionaryCalls.strike.Goals as goal

pub returns-clause-next : goal.returns-clause-next
returns-clause-next g c = λ b sh. let live = c.in_ok-ticket.ensures in (sh.0, (did_live _ _ _ b sh.1 c.args.tag.now None live.facts _ (live.answer sh.0 b sh.1) _ c.clear.ensures.next).shows)

pub returns-in_err-ticket-clause-next : goal.returns-in_err-ticket-clause-next
returns-in_err-ticket-clause-next g c = λ b sh. (sh.0, (did_dead _ _ _ b sh.1 c.args.tag.now None _ (c.in_err-ticket.ensures.answer sh.0 b sh.1)).shows)
