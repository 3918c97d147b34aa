use Rattle.std.proofs.Common.{[], ◌/◌, sym, arith}
use Rattle.std.proofs.lemmas.List.FromFn.{get_or-map-range_with_len}
use Rattle.label_stores.specs.Leads.{led_span}
use Rattle.label_stores.proofs.Leads.{end_before, end_within}
use Rattle.label_stores.proofs.grouped.GroupedLayout.span.Goals as goal

pub walk-head-requires : goal.walk-head-requires
walk-head-requires c =
    let sound = c.requires.sound in
    (sound.groups (c.args.v / 16) (omega arith), (omega arith, omega (arith, end_before c.args.bytes.now c.args.v c.args._fill.count (omega arith), sound.used, sound.wide, c.args._fill)))

pub end_of-end-requires : goal.end_of-end-requires
end_of-end-requires c =
    let sound = c.requires.sound in
    end_within c.args.bytes.now c.walk-head.result c.args.v c.args._fill.count c.walk-head.ensures (omega arith) (omega (arith, sound.used, sound.wide, c.args._fill))

pub returns : goal.returns
returns c = rw (c.end_of-end.ensures.end, c.walk-head.ensures) (sym (get_or-map-range_with_len (led_span c.args.bytes.now) 0 c.args._fill.count c.args.v c.args.v [] (omega arith) (omega arith)))
