use Rattle.std.proofs.Common.{◌≡◌, length, ap, ◌∙◌, arith}
use Rattle.session.proofs.Laid.{put_within, put_beyond}
use Rattle.session.proofs.output.Output.put.Goals as goal
use Rattle.session.proofs.output.Output.put.Goals.{then-self, else-self}

pub returns : goal.returns
returns c = elim c.if-self.branch [
  | then-self w ↦ (let at : c.if-self.self.1.1.0 ≡ c.args.self.now.at = ap (λ s. s.1.1.0) w.self-is in
      record {
        same = ap (λ s. s.1.0.ghost_name) w.self-is;
        bytes = ap (λ s. s.1.0.now) w.self-is ∙ put_within _ _ _ _ _ _ w.if-self.true (omega (arith, w.min-n.ensures)) (omega arith) w.copy_from_slice.ensures.after;
        count = omega (arith, at, ap (λ s. length s.1.0.now) w.self-is, c.saturating_add-self.ensures);
      })
  | else-self w ↦ (let at : c.if-self.self.1.1.0 ≡ c.args.self.now.at = ap (λ s. s.1.1.0) w.self-is in
      record {
        same = ap (λ s. s.1.0.ghost_name) w.self-is;
        bytes = ap (λ s. s.1.0.now) w.self-is ∙ put_beyond _ _ _ w.if-self.false;
        count = omega (arith, at, ap (λ s. length s.1.0.now) w.self-is, c.saturating_add-self.ensures);
      })
]
