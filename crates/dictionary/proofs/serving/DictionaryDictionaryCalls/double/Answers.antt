use Rattle.dictionary.proofs.Taking.{did_double}
use Rattle.dictionary.proofs.serving.DictionaryDictionaryCalls.double.Goals as goal

pub returns-clause-answer : goal.returns-clause-answer
returns-clause-answer g c = λ b sh. (did_double _ _ _ b sh.1 _ c.double.ensures.next _ c.double.ensures.answer _ c.map_err.ensures.cases).says

pub returns-clause-next : goal.returns-clause-next
returns-clause-next g c = λ b sh. (sh.0, (did_double _ _ _ b sh.1 _ c.double.ensures.next _ c.double.ensures.answer _ c.map_err.ensures.cases).shows)
