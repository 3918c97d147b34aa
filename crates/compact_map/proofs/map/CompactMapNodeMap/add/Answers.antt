use Rattle.std.proofs.Common.{◌≡◌, ◌+◌, Ok, sym, refl, ap, ◌∙◌, arith}
use Rattle.std.proofs.lemmas.Result.{err_from_is_err_and}
use Rattle.std.proofs.lemmas.Bool.{true≢false}
use Rattle.rules.specs.declared.step.Step.TheVariants.{By32}
use Rattle.parts.specs.Maps.{add_answer}
use Rattle.parts.proofs.Answered.{some_is, none_is, add_out, add_taken, add_full, add_made, next_kept, next_made}
use Rattle.compact_map.specs.declared.shape.CompactMap.{CompactMap}
use Rattle.compact_map.specs.Meaning.{meaning_of}
use Rattle.compact_map.proofs.Meant.{count_is, pair_in_lem, memory_same}
use Rattle.compact_map.proofs.map.CompactMapNodeMap.add.Goals as goal

pub returns-in_err-check_pair : goal.returns-in_err-check_pair
returns-in_err-check_pair c =
    let s : CompactMap = c.args.self.now in
    let p = err_from_is_err_and c.from_residual.result c.from_residual.ensures.1 in
    let a = add_out By32 (meaning_of s) c.args.u c.args.c _ (sym c.in_err-check_pair.ensures) in
    rw (p.1, p.2)
    (record { answer = sym a; next = sym (next_kept By32 (meaning_of s) c.args.u c.args.c _ a); kept = λ e. refl; memory = memory_same s; lender = refl })

pub find-requires : goal.find-requires
find-requires c = pair_in_lem (meaning_of c.args.self.now) c.args.u c.args.c c.in_ok-check_pair.ensures

pub returns-then-is_some : goal.returns-then-is_some
returns-then-is_some c =
    let s : CompactMap = c.args.self.now in
    let h = pair_in_lem (meaning_of s) c.args.u c.args.c c.in_ok-check_pair.ensures in
    let f = some_is c.find.result c.if-is_some.ensures in
    let a = add_taken By32 (meaning_of s) c.args.u c.args.c f.0 h.0 h.1 (sym c.find.ensures ∙ f.1) in
    record { answer = sym a; next = sym (next_kept By32 (meaning_of s) c.args.u c.args.c _ a); kept = λ e. refl; memory = memory_same s; lender = refl }

pub returns-then-v-room_of : goal.returns-then-v-room_of
returns-then-v-room_of c =
    let s : CompactMap = c.args.self.now in
    let h = pair_in_lem (meaning_of s) c.args.u c.args.c c.in_ok-check_pair.ensures in
    let a = add_full By32 (meaning_of s) c.args.u c.args.c h.0 h.1 (sym c.find.ensures ∙ none_is c.find.result c.if-is_some.ensures) (omega (arith, count_is s)) in
    record { answer = sym a; next = sym (next_kept By32 (meaning_of s) c.args.u c.args.c _ a); kept = λ e. refl; memory = memory_same s; lender = refl }

pub insert-requires : goal.insert-requires
insert-requires c =
    let h = pair_in_lem (meaning_of c.args.self.now) c.args.u c.args.c c.in_ok-check_pair.ensures in
    (h.0, (h.1, (omega (arith, count_is c.args.self.now), sym c.find.ensures ∙ none_is c.find.result c.if-is_some.ensures)))

pub returns : goal.returns
returns c =
    let s : CompactMap = c.args.self.now in
    let h = pair_in_lem (meaning_of s) c.args.u c.args.c c.in_ok-check_pair.ensures in
    let a : add_answer By32 (meaning_of s) c.args.u c.args.c ≡ Ok (s.later + 1)
    = add_made By32 (meaning_of s) c.args.u c.args.c h.0 h.1 (sym c.find.ensures ∙ none_is c.find.result c.if-is_some.ensures) (omega (arith, count_is s)) ∙ ap Ok (count_is s) in
    record {
      answer = sym a;
      next = c.insert.ensures.next ∙ sym (next_made By32 (meaning_of s) c.args.u c.args.c _ a);
      kept = λ e. absurd (true≢false e);
      memory = c.insert.ensures.memory;
      lender = c.insert.ensures.lender;
    }
