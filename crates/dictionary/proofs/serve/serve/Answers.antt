use Rattle.std.proofs.Common.{is_ok, sym, ap, ◌∙◌, inl, inr}
use Rattle.dictionary.proofs.Alike.{served}
use Rattle.dictionary.proofs.Fresh.{open_cases}
use Rattle.dictionary.proofs.serve.serve.Goals as goal

pub returns-clause-ran : goal.returns-clause-ran
returns-clause-ran g c = record {
  served = λ e.
      let opened = c.new-d.ensures.opened ∙ e in
      let sh = c.new-d.ensures.shows opened in
      served _ _ _ _ _ _ _ _ _ _ (c.run.ensures.ran _ (opened, sh)) (c.run.ensures.shows _ (opened, sh)).1;
  refused = λ e.
      let opened = c.new-d.ensures.opened ∙ e in
      let r = c.run.ensures.unfit (ap is_ok opened) in
      (r.1, ap (λ d. d.parts) r.0 ∙ c.new-d.ensures.kept opened);
  stays = c.run.ensures.stays ∙ c.new-d.ensures.stays;
}

pub returns-clause-opened : goal.returns-clause-opened
returns-clause-opened g c = elim (open_cases (g.M.NodeMap.meaning c.args.parts.map) (g.L.LabelStore.meaning c.args.parts.store) (g.S.Shelf.meaning c.args.parts.shelf)) [
  | inl e ↦ let opened = c.new-d.ensures.opened ∙ e in (c.run.ensures.shows _ (opened, c.new-d.ensures.shows opened)).0 ∙ sym e
  | inr e ↦ let opened = c.new-d.ensures.opened ∙ e in ap (λ d. d.opened) (c.run.ensures.unfit (ap is_ok opened)).0 ∙ c.new-d.ensures.opened
]
