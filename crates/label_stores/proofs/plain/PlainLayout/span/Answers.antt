use Rattle.std.proofs.Common.{◌≡◌, ℕ, ◌+◌, ltb, [], get_or, sym, ap, ◌∙◌, arith}
use Rattle.std.specs.List.{between}
use Rattle.std.proofs.lemmas.List.FromFn.{get_or-map-range_with_len}
use Rattle.std.proofs.lemmas.Bool.{lt-ltb, le-ltb, cond-true, cond-false}
use Rattle.label_stores.specs.Spans.{end_at, span_at}
use Rattle.label_stores.proofs.plain.PlainLayout.span.Goals as goal
use Rattle.label_stores.proofs.plain.PlainLayout.span.Goals.{then-v-fill, else-v-fill}

pub returns : goal.returns
returns c =
    let fill = c.args.fill in
    let v = c.args.v in
    let e : c.if-v-fill.end ≡ end_at c.args.starts.now fill.count fill.total v
    = elim c.if-v-fill.branch [
      | then-v-fill w ↦ w.end-is ∙ sym (cond-true (ltb (v + 1) fill.count) _ _ (lt-ltb (v + 1) fill.count (omega (arith, w.if-v-fill))))
      | else-v-fill w ↦ w.end-is ∙ sym (cond-false (ltb (v + 1) fill.count) _ _ (le-ltb (v + 1) fill.count (omega (arith, w.if-v-fill))))
    ] in
    ap (λ (x : ℕ). between (get_or c.args.starts.now v 0) x c.args.bytes.now) e ∙ sym (get_or-map-range_with_len (span_at c.args.bytes.now c.args.starts.now fill.count fill.total) 0 fill.count v v [] (omega arith) (omega arith))
