use Rattle.std.proofs.Common.{ℕ, Option, subst, ◌∙◌}
use Rattle.commands.specs.Commands.{Order}
use Rattle.rules.specs.Runs.{Request, turn}
use Rattle.session.specs.Outcomes.{HasOutcome, order_outcome}
use Rattle.session.proofs.Laid.{joined}
use Rattle.session.proofs.Saying.{said, refused_text, wrote_as}
use Rattle.session.proofs.lists.put_line.Goals as goal

pub returns : goal.returns
returns g c =
    let p = c.perform-answer.ensures in
    subst (λ (o : Option Order). HasOutcome g.D.DictionaryCalls.shows g.D.DictionaryCalls.extent g.D.DictionaryCalls.unfit (order_outcome o) c.args.d.now c.args.output.now c.perform-answer.new.d c.put-2.new.self) c.in-Some.ensures (record {
      wrote = λ b sh. joined (wrote_as (said b _ _ _ _ _ c.call_of-call.ensures.request (p.answer b sh) (p.written b sh)) c.put_answer.ensures) c.put-2.ensures;
      next = λ b sh. subst (λ (q : Request ℕ). g.D.DictionaryCalls.shows c.perform-answer.new.d (turn b q).next) c.call_of-call.ensures.request (p.next b sh);
      same = c.put-2.ensures.same ∙ c.put_answer.ensures.same;
      stays = p.stays;
      unfit = λ u. ((p.unfit u).1, joined (wrote_as (refused_text _ _ _ (p.unfit u).0) c.put_answer.ensures) c.put-2.ensures);
    })
