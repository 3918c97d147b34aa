use Rattle.std.proofs.Common.{◌-◌, refl, ◌∙◌, arith, length-set}
use Rattle.dictionary.proofs.Ascent.{up_is, up_err, parent_less, byte_small, ticket_labelled, first_stage, stage_room, stage_inside, stage_labelled, top_enough, top_stage, step_stage, row_enough, row_some, row_stage}
use Rattle.dictionary.proofs.climbing.climb.Goals as goal

pub loop-end-init : goal.loop-end-init
loop-end-init g c = (
  omega arith,
  omega arith,
  c.count.ensures.facts,
  λ t. first_stage _ _ _ t c.args.word.now _ (c.length_of-i.ensures (ticket_labelled _ _ _ t)),
)

pub returns-then-i-end : goal.returns-then-i-end
returns-then-i-end g c = record {
  place = c.loop-end.invariant.1;
  spelled = λ t.
      let v = c.loop-end.invariant in
      let r = stage_room _ _ _ t _ v.0 _ v.1 _ _ (v.3 t) in
      absurd (omega arith);
}

pub returns-in_default : goal.returns-in_default
returns-in_default g c = record {
  place = omega arith;
  spelled = λ t.
      let v = c.loop-end.invariant in
      let z = up_err _ _ _ c.in_default.ensures (stage_inside _ _ _ t _ v.0 _ v.1 _ _ (v.3 t)) in
      c.lay.ensures.laid (stage_labelled _ _ _ t _ v.0 _ v.1 _ _ (v.3 t)) (top_enough _ _ _ t _ v.0 _ v.1 _ _ (v.3 t) z)
      ∙ top_stage _ _ _ t _ v.0 _ v.1 _ _ (v.3 t) z;
}

pub loop-end-smaller-then-symbol-step_symbol : goal.loop-end-smaller-then-symbol-step_symbol
loop-end-smaller-then-symbol-step_symbol g c = parent_less _ _ _ _ c.loop-end.invariant.2 (up_is _ _ _ c.in-Ok.ensures)

pub loop-end-preserved-then-symbol-step_symbol : goal.loop-end-preserved-then-symbol-step_symbol
loop-end-preserved-then-symbol-step_symbol g c =
    let v = c.loop-end.invariant in (
      v.0,
      v.1,
      v.2,
      λ t. step_stage _ _ _ t _ v.0 _ v.1 _ _ (v.3 t) _ _ (up_is _ _ _ c.in-Ok.ensures) _ c.step_symbol.ensures c.if-symbol-step_symbol.true _ c.length-i.ensures,
    )

pub returns-then-end-eq0 : goal.returns-then-end-eq0
returns-then-end-eq0 g c = record {
  place = omega arith;
  spelled = λ t.
      let v = c.loop-end.invariant in
      let u = up_is _ _ _ c.in-Ok.ensures in
      let n = c.if-symbol-step_symbol.false in
      let enough = row_enough _ _ _ t _ v.0 _ v.1 _ _ (v.3 t) _ _ u _ c.step_symbol.ensures n in
      let laid = c.lay-end.ensures.laid (stage_labelled _ _ _ t _ v.0 _ v.1 _ _ (v.3 t)) enough in
      let s = row_some _ _ _ t _ v.0 _ v.1 _ _ (v.3 t) _ _ u _ c.step_symbol.ensures n c.lay-end.new.word (omega arith) _ c.lay-end.ensures.place laid _ _ refl refl in
      absurd (omega arith);
}

pub overflow_cast-word : goal.overflow_cast-word
overflow_cast-word g c = let h = byte_small _ _ _ _ _ c.loop-end.invariant.2 (up_is _ _ _ c.in-Ok.ensures) c.byte_of.ensures in omega arith

pub loop-end-smaller : goal.loop-end-smaller
loop-end-smaller g c = parent_less _ _ _ _ c.loop-end.invariant.2 (up_is _ _ _ c.in-Ok.ensures)

pub loop-end-preserved : goal.loop-end-preserved
loop-end-preserved g c =
    let v = c.loop-end.invariant in (
      omega (arith, length-set c.lay-end.new.word (c.lay-end.result - 1) c.byte_of.result),
      omega arith,
      v.2,
      λ t.
          let u = up_is _ _ _ c.in-Ok.ensures in
          let n = c.if-symbol-step_symbol.false in
          let enough = row_enough _ _ _ t _ v.0 _ v.1 _ _ (v.3 t) _ _ u _ c.step_symbol.ensures n in
          let laid = c.lay-end.ensures.laid (stage_labelled _ _ _ t _ v.0 _ v.1 _ _ (v.3 t)) enough in
          row_stage _ _ _ t _ v.0 _ v.1 _ _ (v.3 t) _ _ u _ c.step_symbol.ensures n c.lay-end.new.word (omega arith) _ c.lay-end.ensures.place laid _ _ c.byte_of.ensures c.place_of-i.ensures,
    )
