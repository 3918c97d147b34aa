use Rattle.std.proofs.Common.{◌≡◌, ◌<◌, ◌≤◌, length, refl, sym, ◌∙◌, subst, arith, length-take, rules}
use Rattle.std.proofs.lemmas.List.{get_or-take}
use borrow.Author.Rules.{scaled_Fits}
use Rattle.dictionary.specs.Runs.{made}
use Rattle.dictionary.proofs.Running.{next_made, so_far_more, ran_all, shows_all, refused_more, refused_all, put_back}
use Rattle.dictionary.proofs.runs.run.Goals as goal

pub loop-i-preserved : goal.loop-i-preserved
loop-i-preserved g c =
    let count = c.min-count.result in
    let below : c.loop-i.i < count = omega (arith, length-take count c.args.calls.now) in
    let inside : c.loop-i.i < length c.args.calls.now = omega (arith, c.min-count.ensures) in
    let placed : c.loop-i.i < length c.args.answers.now = omega (arith, c.min-count.ensures) in
    let call = c.call-item.is ∙ get_or-take count c.args.calls.now c.loop-i.i c.call-item.result below in (
      search rules,
      λ b sh.
          let s = c.loop-i.invariant.1 b sh in
          so_far_more _ _ _ _ _ _ _ _ _ _ _ _ (next_made _ _ _ _ inside placed call) (omega arith) c.loop-i.invariant.0 (search rules) (omega arith) s
          (c.perform.ensures.answer s.book s.shows) (c.perform.ensures.next s.book s.shows) (c.perform.ensures.written s.book s.shows)
          (search rules) refl,
      c.perform.ensures.stays ∙ c.loop-i.invariant.2,
      λ u.
          let k = c.loop-i.invariant.3 u in
          let p = c.perform.ensures.unfit (subst g.D.DictionaryCalls.unfit (sym k.0) u) in
          (p.1 ∙ k.0, refused_more _ _ _ _ _ _ placed k.1 p.0 refl, put_back _ _ _ _ p.2 ∙ k.2),
    )

pub returns : goal.returns
returns g c =
    let count = c.min-count.result in
    let long = length-take (length c.args.answers.now) c.args.calls.now in
    let all : length (made c.args.calls.now c.args.answers.now) ≡ c.loop-i.i = omega (arith, long, length-take count c.args.calls.now, c.min-count.ensures) in
    let done : length (made c.args.calls.now c.args.answers.now) ≤ c.loop-i.i = omega arith in
    record {
      ran = λ b sh. ran_all _ _ _ _ _ _ _ _ _ done (c.loop-i.invariant.1 b sh) (omega (arith, long));
      shows = λ b sh. shows_all _ _ _ _ _ _ _ _ _ done (c.loop-i.invariant.1 b sh);
      stays = c.loop-i.invariant.2;
      unfit = λ u.
          let k = c.loop-i.invariant.3 u in
          (k.0, refused_all (made c.args.calls.now c.args.answers.now) c.args.answers.now c.loop-i.answers c.args.memory.now c.loop-i.memory c.loop-i.i (sym all) k.1 k.2);
    }

pub offset_bounds-answers-i : goal.offset_bounds-answers-i
offset_bounds-answers-i g c =
    let count = c.min-count.result in
    let placed : c.loop-i.i < length c.args.answers.now = omega (arith, c.min-count.ensures, length-take count c.args.calls.now) in
    scaled_Fits c.loop-i.i (length c.args.answers.now) _ placed (search arith)
