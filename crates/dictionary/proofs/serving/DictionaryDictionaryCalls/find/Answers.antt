use Rattle.std.proofs.Common.{◌∙◌, arith}
use Rattle.std.proofs.lemmas.Result.{err_from_is_err_and}
use Rattle.dictionary.proofs.Checked.{read}
use Rattle.dictionary.proofs.Finding.{find_refused, find_empty, found_there, found_none}
use Rattle.dictionary.proofs.serving.DictionaryDictionaryCalls.find.Goals as goal
use Rattle.dictionary.proofs.serving.DictionaryDictionaryCalls.find.Goals.{in-Ok, in-Err}

pub returns-in_err-tag-clause-answer : goal.returns-in_err-tag-clause-answer
returns-in_err-tag-clause-answer g c = λ b sh.
    let p = err_from_is_err_and c.from_residual-in_err-tag.result c.from_residual-in_err-tag.ensures.1 in
    rw (p.1, p.2) (find_refused b c.args.tag.now _ c.in_err-tag.ensures)

pub returns-then-count-eq0-clause-answer : goal.returns-then-count-eq0-clause-answer
returns-then-count-eq0-clause-answer g c = λ b sh. find_empty _ _ _ b sh.1 _ c.in_ok-tag.ensures.0 (omega arith)

pub returns-clause-answer : goal.returns-clause-answer
returns-clause-answer g c = λ b sh.
    let form = read c.args.tag.now _ _ _ _ c.in_ok-tag.ensures c.spell_into-len.ensures.bytes c.spell_into-len.ensures.len in
    elim c.match-place.branch [
      | in-Ok w ↦ found_there _ _ _ b sh.1 _ form.0 _ form.1 (omega arith) _ c.look-place.ensures.looked c.look-place.ensures.facts _ w.in-Ok.is _ (w.held-is ∙ w.held_at-held.ensures)
      | in-Err w ↦ rw w.held-is (found_none _ _ _ b sh.1 _ form.0 _ form.1 (omega arith) _ c.look-place.ensures.looked _ w.in-Err.is)
    ]
