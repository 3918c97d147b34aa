use Rattle.std.proofs.Common.{is_ok, rules, sym, ap, ◌∙◌, inl, inr}
use Rattle.rules.specs.Tree.{bytes_in}
use Rattle.parts.specs.Maps.{count_of}
use Rattle.dictionary.proofs.Fresh.{open_cases}
use Rattle.session.proofs.Totals.{printed_with, printed_of}
use Rattle.session.proofs.Truth.{finds_true, fresh_sound}
use Rattle.session.proofs.serve.serve_list.Goals as goal

pub returns-clause-served : goal.returns-clause-served
returns-clause-served g c =
    let opens = c.new-d.ensures in
    let ran = c.put_lines.ensures in
    let o = c.new-output.ensures in
    let name = c.put_totals.ensures.same ∙ ran.same ∙ o.same in
    record {
      served = λ e.
          let fit = opens.opened ∙ e in
          let sh = opens.shows fit in
          let last = (ran.next _ (fit, sh)).1 in
          (printed_of _ _ _ _ last (ran.wrote _ (fit, sh)) c.put_totals.ensures o.bytes o.start (search rules) c.count.ensures (search rules) (search rules), last);
      finds = finds_true _ _ (fresh_sound (g.M.NodeMap.meaning c.args.parts.map) (g.L.LabelStore.meaning c.args.parts.store));
      refused = λ e.
          let unfit = opens.opened ∙ e in
          let same = ran.unfit (ap is_ok unfit) in
          let map = ap (λ d. d.parts.map) same.0 ∙ opens.parts.0 in
          let store = ap (λ d. d.parts.store) same.0 ∙ opens.parts.1 in (
            printed_with same.1 c.put_totals.ensures o.bytes o.start (search rules) c.count.ensures (c.nodes.ensures ∙ ap (λ m. count_of (g.M.NodeMap.meaning m)) map) (c.label_bytes.ensures ∙ ap (λ l. bytes_in (g.L.LabelStore.meaning l).labels) store),
            ap (λ d. d.parts) same.0 ∙ opens.kept unfit,
          );
      stays = ran.stays ∙ opens.stays;
    }

pub returns-clause-opened : goal.returns-clause-opened
returns-clause-opened g c = elim (open_cases (g.M.NodeMap.meaning c.args.parts.map) (g.L.LabelStore.meaning c.args.parts.store) (g.S.Shelf.meaning c.args.parts.shelf)) [
  | inl e ↦ let opened = c.new-d.ensures.opened ∙ e in (c.put_lines.ensures.next _ (opened, c.new-d.ensures.shows opened)).0 ∙ sym e
  | inr e ↦ let opened = c.new-d.ensures.opened ∙ e in ap (λ d. d.opened) (c.put_lines.ensures.unfit (ap is_ok opened)).0 ∙ c.new-d.ensures.opened
]
