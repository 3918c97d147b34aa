use Rattle.std.proofs.Common.{ℕ, ◌+◌, ◌≤◌, length, arith}
use Rattle.label_stores.proofs.Leads.{grouped_more, grouped_used, grouped_sum, groups_more, short_more}
use Rattle.label_stores.proofs.grouped.GroupedLayout.lay.Goals as goal

pub returns-clause-sound : goal.returns-clause-sound
returns-clause-sound c =
    let sound = c.requires.sound in
    let fill = c.args.fill in
    let label = c.args.label.now in
    let after = c.with_label.result in
    let at : ℕ = fill.total + fill.count in
    let inside : at ≤ length c.args.bytes.now = omega (arith, sound.wide, fill) in
    record {
      listed = omega (arith, c.note.auto.starts, sound.listed, c.with_label.ensures.rooms);
      wide = omega (arith, c.lead.auto.bytes, sound.wide, c.with_label.ensures.rooms);
      used = omega (arith, grouped_used c.args.bytes.now label at fill.count inside sound.used c.lead.new.bytes after.count c.lead.ensures c.with_label.ensures.count, c.with_label.ensures);
      sum = grouped_sum c.args.bytes.now label at fill.count inside sound.used c.lead.new.bytes after.count c.lead.ensures c.with_label.ensures.count fill.total after.total sound.sum c.with_label.ensures.total;
      groups = groups_more c.args.bytes.now label at fill.count inside sound.used c.lead.new.bytes after.count c.lead.ensures c.with_label.ensures.count c.args.starts.now c.note.new.starts c.note.ensures (omega (arith, sound.listed, c.requires.fits)) sound.groups;
      short = short_more c.args.bytes.now label at fill.count inside sound.used c.lead.new.bytes after.count c.lead.ensures c.with_label.ensures.count c.requires.fits.2 sound.short;
    }

pub returns-clause-labels : goal.returns-clause-labels
returns-clause-labels c =
    let sound = c.requires.sound in
    let fill = c.args.fill in
    grouped_more c.args.bytes.now c.args.label.now (fill.total + fill.count) fill.count (omega (arith, sound.wide, fill)) sound.used c.lead.new.bytes c.with_label.result.count c.lead.ensures c.with_label.ensures.count
