use Rattle.std.proofs.Common.{ℕ, Some, set, ap, ◌∙◌, rules, arith}
use Rattle.std.proofs.lemmas.Result.{err_from_is_err_and}
use Rattle.dictionary.proofs.Checked.{read}
use Rattle.dictionary.proofs.Finding.{asked}
use Rattle.dictionary.proofs.Taking.{set_extent}
use Rattle.dictionary.proofs.Growing.{append_places}
use Rattle.dictionary.proofs.Entry.{did_bad, did_hold, did_again, did_first_refused, did_first, did_new_refused, can_grow, did_new}
use Rattle.dictionary.proofs.serving.DictionaryDictionaryCalls.enter.Goals as goal
use Rattle.dictionary.proofs.serving.DictionaryDictionaryCalls.enter.Goals.{in-Ok+in-None, in-Err+in_ok-check_room-in-Err}

-- what a case answers and what is then shown are two clauses, each a line over the same lemma: one for both is no plainer
pub returns-in_err-tag-clause-answer : goal.returns-in_err-tag-clause-answer
returns-in_err-tag-clause-answer g c = λ b sh.
    let p = err_from_is_err_and c.from_residual-in_err-tag.result c.from_residual-in_err-tag.ensures.1 in rw (p.1, p.2) (did_bad _ _ _ b sh.1 c.args.tag.now c.args.value _ c.in_err-tag.ensures).says

pub returns-in_err-tag-clause-next : goal.returns-in_err-tag-clause-next
returns-in_err-tag-clause-next g c = λ b sh.
    (sh.0, (did_bad _ _ _ b sh.1 c.args.tag.now c.args.value _ c.in_err-tag.ensures).shows)

pub returns-in_err-check_room-clause-answer : goal.returns-in_err-check_room-clause-answer
returns-in_err-check_room-clause-answer g c = λ b sh.
    let form = read c.args.tag.now _ _ _ _ c.in_ok-tag.ensures c.spell_into-len.ensures.bytes c.spell_into-len.ensures.len in
    let p = err_from_is_err_and c.from_residual-in_err-check_room.result c.from_residual-in_err-check_room.ensures.1 in rw (p.1, p.2) (did_first_refused _ _ _ b sh.1 c.check_room.ensures.facts c.args.tag.now form.0 c.args.value (omega arith) _ form.1 _ c.in_err-check_room.ensures.answer).says

pub returns-in_err-check_room-clause-next : goal.returns-in_err-check_room-clause-next
returns-in_err-check_room-clause-next g c = λ b sh.
    let form = read c.args.tag.now _ _ _ _ c.in_ok-tag.ensures c.spell_into-len.ensures.bytes c.spell_into-len.ensures.len in
    (sh.0, (did_first_refused _ _ _ b sh.1 c.check_room.ensures.facts c.args.tag.now form.0 c.args.value (omega arith) _ form.1 _ c.in_err-check_room.ensures.answer).shows)

pub returns-then-count-eq0-clause-answer : goal.returns-then-count-eq0-clause-answer
returns-then-count-eq0-clause-answer g c = λ b sh.
    let form = read c.args.tag.now _ _ _ _ c.in_ok-tag.ensures c.spell_into-len.ensures.bytes c.spell_into-len.ensures.len in
    (did_first _ _ _ b sh.1 c.check_room.ensures.facts c.args.tag.now form.0 c.args.value (omega arith) _ form.1 c.in_ok-check_room.ensures.answer _ c.append.ensures.next _ c.put.ensures.next).says

pub returns-then-count-eq0-clause-next : goal.returns-then-count-eq0-clause-next
returns-then-count-eq0-clause-next g c = λ b sh.
    let form = read c.args.tag.now _ _ _ _ c.in_ok-tag.ensures c.spell_into-len.ensures.bytes c.spell_into-len.ensures.len in
    (sh.0, (did_first _ _ _ b sh.1 c.check_room.ensures.facts c.args.tag.now form.0 c.args.value (omega arith) _ form.1 c.in_ok-check_room.ensures.answer _ c.append.ensures.next _ c.put.ensures.next).shows)

pub returns-then-count-eq0-clause-stays : goal.returns-then-count-eq0-clause-stays
returns-then-count-eq0-clause-stays g c = set_extent _ _ _ _ _ _ (append_places _ _ _ _ c.append.ensures.next) c.put.ensures.next

pub returns-in-Some-clause-answer : goal.returns-in-Some-clause-answer
returns-in-Some-clause-answer g c = λ b sh.
    let form = read c.args.tag.now _ _ _ _ c.in_ok-tag.ensures c.spell_into-len.ensures.bytes c.spell_into-len.ensures.len in
    (did_hold _ _ _ b sh.1 c.look.ensures.facts c.args.tag.now form.0 c.args.value _ form.1 (omega arith) _ c.look.ensures.looked _ c.in-Ok.is _ c.in-Some.ensures).says

pub returns-in-Some-clause-next : goal.returns-in-Some-clause-next
returns-in-Some-clause-next g c = λ b sh.
    let form = read c.args.tag.now _ _ _ _ c.in_ok-tag.ensures c.spell_into-len.ensures.bytes c.spell_into-len.ensures.len in
    (sh.0, (did_hold _ _ _ b sh.1 c.look.ensures.facts c.args.tag.now form.0 c.args.value _ form.1 (omega arith) _ c.look.ensures.looked _ c.in-Ok.is _ c.in-Some.ensures).shows)

pub returns-in_err-check_room-in-Err-clause-answer : goal.returns-in_err-check_room-in-Err-clause-answer
returns-in_err-check_room-in-Err-clause-answer g c = λ b sh.
    let form = read c.args.tag.now _ _ _ _ c.in_ok-tag.ensures c.spell_into-len.ensures.bytes c.spell_into-len.ensures.len in
    let p = err_from_is_err_and c.from_residual-in_err-check_room-in-Err.result c.from_residual-in_err-check_room-in-Err.ensures.1 in rw (p.1, p.2) (did_new_refused _ _ _ b sh.1 c.look.ensures.facts c.args.tag.now form.0 c.args.value _ form.1 (omega arith) _ c.look.ensures.looked _ c.in-Err.is _ c.in_err-check_room-in-Err.ensures.answer).says

pub returns-in_err-check_room-in-Err-clause-next : goal.returns-in_err-check_room-in-Err-clause-next
returns-in_err-check_room-in-Err-clause-next g c = λ b sh.
    let form = read c.args.tag.now _ _ _ _ c.in_ok-tag.ensures c.spell_into-len.ensures.bytes c.spell_into-len.ensures.len in
    (sh.0, (did_new_refused _ _ _ b sh.1 c.look.ensures.facts c.args.tag.now form.0 c.args.value _ form.1 (omega arith) _ c.look.ensures.looked _ c.in-Err.is _ c.in_err-check_room-in-Err.ensures.answer).shows)

pub returns-clause-answer : goal.returns-clause-answer
returns-clause-answer g c = λ b sh.
    let form = read c.args.tag.now _ _ _ _ c.in_ok-tag.ensures c.spell_into-len.ensures.bytes c.spell_into-len.ensures.len in
    elim c.match-look.branch [
      | in-Ok+in-None w ↦
          let put = rw w.self-is at c.put-2.ensures.next ∙ ap (λ (n : ℕ). set (g.S.Shelf.meaning c.args.self.now.parts.shelf) n (Some c.args.value)) {y = w.in-Ok.node} (search rules) in
          rw w.node-is (did_again _ _ _ b sh.1 c.look.ensures.facts c.args.tag.now form.0 c.args.value _ form.1 (omega arith) _ c.look.ensures.looked _ w.in-Ok.is w.in-None.ensures _ put).says
      | in-Err+in_ok-check_room-in-Err w ↦
          let put = rw w.self-is at c.put-2.ensures.next ∙ ap (λ (n : ℕ). set (g.S.Shelf.meaning c.args.self.now.parts.shelf) n (Some c.args.value)) {y = w.grow-node.result} (search rules) in
          let room = w.in_ok-check_room-in-Err.ensures.answer in
          let can = can_grow _ _ _ b sh.1 c.look.ensures.facts c.args.tag.now form.0 c.args.value _ form.1 (omega arith) _ c.look.ensures.looked _ w.in-Err.is room (c.look.ensures.opened (asked _ _ _ b sh.1 c.args.tag.now form.0 _ form.1 (omega arith))) c.look.ensures.bounded in
          rw w.node-is (did_new _ _ _ b sh.1 c.look.ensures.facts c.args.tag.now form.0 c.args.value _ form.1 (omega arith) _ c.look.ensures.looked _ w.in-Err.is room _ _ _ (w.grow-node.ensures.grown can) _ put).says
    ]

pub returns-clause-next : goal.returns-clause-next
returns-clause-next g c = λ b sh.
    let form = read c.args.tag.now _ _ _ _ c.in_ok-tag.ensures c.spell_into-len.ensures.bytes c.spell_into-len.ensures.len in
    elim c.match-look.branch [
      | in-Ok+in-None w ↦
          let put = rw w.self-is at c.put-2.ensures.next ∙ ap (λ (n : ℕ). set (g.S.Shelf.meaning c.args.self.now.parts.shelf) n (Some c.args.value)) {y = w.in-Ok.node} (search rules) in
          rw w.self-is (sh.0, (did_again _ _ _ b sh.1 c.look.ensures.facts c.args.tag.now form.0 c.args.value _ form.1 (omega arith) _ c.look.ensures.looked _ w.in-Ok.is w.in-None.ensures _ put).shows)
      | in-Err+in_ok-check_room-in-Err w ↦
          let put = rw w.self-is at c.put-2.ensures.next ∙ ap (λ (n : ℕ). set (g.S.Shelf.meaning c.args.self.now.parts.shelf) n (Some c.args.value)) {y = w.grow-node.result} (search rules) in
          let room = w.in_ok-check_room-in-Err.ensures.answer in
          let can = can_grow _ _ _ b sh.1 c.look.ensures.facts c.args.tag.now form.0 c.args.value _ form.1 (omega arith) _ c.look.ensures.looked _ w.in-Err.is room (c.look.ensures.opened (asked _ _ _ b sh.1 c.args.tag.now form.0 _ form.1 (omega arith))) c.look.ensures.bounded in
          rw w.self-is (sh.0, (did_new _ _ _ b sh.1 c.look.ensures.facts c.args.tag.now form.0 c.args.value _ form.1 (omega arith) _ c.look.ensures.looked _ w.in-Err.is room _ _ _ (w.grow-node.ensures.grown can) _ put).shows)
    ]
