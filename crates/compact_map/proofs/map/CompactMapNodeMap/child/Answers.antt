use Rattle.std.proofs.Common.{sym, arith}
use Rattle.std.proofs.lemmas.Result.{err_from_is_err_and}
use Rattle.rules.specs.declared.step.Step.TheVariants.{By32}
use Rattle.parts.proofs.Answered.{child_in, child_out}
use Rattle.compact_map.specs.declared.shape.CompactMap.{CompactMap}
use Rattle.compact_map.specs.Meaning.{meaning_of}
use Rattle.compact_map.proofs.Meant.{pair_in_lem}
use Rattle.compact_map.proofs.map.CompactMapNodeMap.child.Goals as goal

pub returns-in_err-check_pair : goal.returns-in_err-check_pair
returns-in_err-check_pair c =
    let s : CompactMap = c.args.self.now in
    let p = err_from_is_err_and c.from_residual.result c.from_residual.ensures.1 in
    rw (p.1, p.2) (sym (child_out By32 (meaning_of s) c.args.u c.args.c _ (sym c.in_err-check_pair.ensures)))

pub find-requires : goal.find-requires
find-requires c =
    let h = pair_in_lem (meaning_of c.args.self.now) c.args.u c.args.c c.in_ok-check_pair.ensures in
    (omega (arith, h.0), h.1)

pub returns : goal.returns
returns c =
    let s : CompactMap = c.args.self.now in
    let h = pair_in_lem (meaning_of s) c.args.u c.args.c c.in_ok-check_pair.ensures in
    sym (child_in By32 (meaning_of s) c.args.u c.args.c _ h.0 h.1 c.find.ensures)
