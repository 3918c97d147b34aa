use Rattle.std.proofs.Common.{refl}
use Rattle.dictionary.proofs.Alike.{alike}
use Rattle.dictionary.proofs.serve.serve_both.Goals as goal

pub returns : goal.returns
returns g c = record {
  first = c.serve-first.ensures.ran;
  second = c.serve-second.ensures.ran;
  opened = (c.serve-first.ensures.opened, c.serve-second.ensures.opened);
  alike = λ e f. alike _ _ _ _ _ _ _ _ _ _ _ _ (record { step = refl; rows = refl }) (c.serve-first.ensures.ran.served e).ran (c.serve-second.ensures.ran.served f).ran;
}
