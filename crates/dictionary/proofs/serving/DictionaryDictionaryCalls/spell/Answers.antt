use Rattle.std.proofs.Common.{◌-◌, arith}
use Rattle.dictionary.proofs.Spelt.{labels_in, spells_8, spelt_of, ticketed, spells_9, spells_in}
use Rattle.dictionary.proofs.serving.DictionaryDictionaryCalls.spell.Goals as goal

pub returns-then-not-is_ticket-clause-answer : goal.returns-then-not-is_ticket-clause-answer
returns-then-not-is_ticket-clause-answer g c = λ b sh. (spells_8 _ _ _ b sh.1 c.args.ticket (c.if-not-is_ticket.ensures (labels_in _ _ _ b sh.1)) _).says

pub returns-then-not-is_ticket-clause-written : goal.returns-then-not-is_ticket-clause-written
returns-then-not-is_ticket-clause-written g c = λ b sh. (spells_8 _ _ _ b sh.1 c.args.ticket (c.if-not-is_ticket.ensures (labels_in _ _ _ b sh.1)) _).written

pub returns-then-buffer-n-clause-answer : goal.returns-then-buffer-n-clause-answer
returns-then-buffer-n-clause-answer g c = λ b sh.
    let p = spelt_of _ _ _ b sh.1 c.args.ticket (c.if-not-is_ticket.ensures (labels_in _ _ _ b sh.1)) in
    (spells_9 _ _ _ b sh.1 c.args.ticket p c.climb.new.word (omega arith) _ c.climb.ensures.place (c.climb.ensures.spelled (ticketed _ _ _ b sh.1 c.args.ticket p)) c.min-from.result (λ h. omega (arith, c.min-from.ensures)) c.args.buffer.now (omega arith)).says

pub returns-then-buffer-n-clause-written : goal.returns-then-buffer-n-clause-written
returns-then-buffer-n-clause-written g c = λ b sh.
    let p = spelt_of _ _ _ b sh.1 c.args.ticket (c.if-not-is_ticket.ensures (labels_in _ _ _ b sh.1)) in
    (spells_9 _ _ _ b sh.1 c.args.ticket p c.climb.new.word (omega arith) _ c.climb.ensures.place (c.climb.ensures.spelled (ticketed _ _ _ b sh.1 c.args.ticket p)) c.min-from.result (λ h. omega (arith, c.min-from.ensures)) c.args.buffer.now (omega arith)).written

pub returns-clause-answer : goal.returns-clause-answer
returns-clause-answer g c = λ b sh.
    let p = spelt_of _ _ _ b sh.1 c.args.ticket (c.if-not-is_ticket.ensures (labels_in _ _ _ b sh.1)) in
    (spells_in _ _ _ b sh.1 c.args.ticket p c.climb.new.word (omega arith) _ c.climb.ensures.place (c.climb.ensures.spelled (ticketed _ _ _ b sh.1 c.args.ticket p)) c.min-from.result (λ h. omega (arith, c.min-from.ensures)) c.args.buffer.now c.copy_from_slice.new.self (200 - c.min-from.result - 0) (omega arith) c.copy_from_slice.ensures.after (omega arith)).says

pub returns-clause-written : goal.returns-clause-written
returns-clause-written g c = λ b sh.
    let p = spelt_of _ _ _ b sh.1 c.args.ticket (c.if-not-is_ticket.ensures (labels_in _ _ _ b sh.1)) in
    (spells_in _ _ _ b sh.1 c.args.ticket p c.climb.new.word (omega arith) _ c.climb.ensures.place (c.climb.ensures.spelled (ticketed _ _ _ b sh.1 c.args.ticket p)) c.min-from.result (λ h. omega (arith, c.min-from.ensures)) c.args.buffer.now c.copy_from_slice.new.self (200 - c.min-from.result - 0) (omega arith) c.copy_from_slice.ensures.after (omega arith)).written
