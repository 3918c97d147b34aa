use Rattle.std.proofs.Common.{length, refl, arith}
use Rattle.std.proofs.lemmas.List.{length-set}
use Rattle.label_stores.proofs.Spans.{plain_more, plain_sum, ordered_more}
use Rattle.label_stores.proofs.plain.PlainLayout.lay.Goals as goal

pub returns-clause-sound : goal.returns-clause-sound
returns-clause-sound c =
    let sound = c.requires.sound in
    let fill = c.args.fill in
    let after = c.with_label.result in
    record {
      listed = simp length-set (omega (arith, sound.listed, c.with_label.ensures.rooms));
      wide = omega (arith, c.write.auto.bytes, sound.wide, c.with_label.ensures.rooms);
      sum =
          plain_sum c.args.bytes.now c.args.starts.now c.args.label.now fill.count fill.total (omega (arith, sound.listed, c.requires.fits)) (omega (arith, sound.wide, fill)) sound.ordered
          c.write.new.bytes after.count after.total c.write.ensures c.with_label.ensures.count c.with_label.ensures.total sound.sum;
      ordered = ordered_more c.args.starts.now fill.count fill.total (length c.args.label.now) after.count after.total (omega (arith, sound.listed, c.requires.fits)) c.requires.fits.2 sound.ordered c.with_label.ensures.count c.with_label.ensures.total;
    }

pub returns-clause-labels : goal.returns-clause-labels
returns-clause-labels c =
    let sound = c.requires.sound in
    let fill = c.args.fill in
    plain_more c.args.bytes.now c.args.starts.now c.args.label.now fill.count fill.total (omega (arith, sound.listed, c.requires.fits)) (omega (arith, sound.wide, fill)) sound.ordered
    c.write.new.bytes _ c.with_label.result.count c.with_label.result.total c.write.ensures refl c.with_label.ensures.count c.with_label.ensures.total
