use Rattle.std.proofs.Common.{◌+◌, ◌*◌, ◌/◌, ◌<◌, ◌≤◌, refl, ◌∙◌, arith}
use Rattle.rules.specs.declared.step.Step.TheVariants.{By32}
use Rattle.compact_map.specs.Table.{Stored}
use Rattle.compact_map.specs.declared.shape.CompactMap.{CompactMap}
use Rattle.compact_map.proofs.Meant.{count_is, vacant_of, grown_stored, grown_map, grown_memory}
use Rattle.compact_map.proofs.shape.CompactMap.insert.Goals as goal

pub put-requires : goal.put-requires
put-requires c =
    let s : CompactMap = c.args.self.now in
    let used : 2 < s.set.large = omega (arith, count_is s) in
    record { inside = omega (arith, s.whole used); node = omega (arith, count_is s); vacant = vacant_of s used _ }

pub invariant_of-self : goal.invariant_of-self
invariant_of-self c =
    let s : CompactMap = c.args.self.now in
    let low : c.args.u ≤ s.later = omega (arith, count_is s) in
    let room : s.later + 1 < 9 * s.set.slots / 10 = omega (arith, count_is s) in
    let g : Stored By32 s.set.log s.set.large (s.later + 1) c.put.new.bytes
    = grown_stored s c.args.u c.args.c low c.requires.1.0 room c.requires.1.1.1 c.put.new.bytes c.put.auto.bytes (rw c.from.ensures at c.put.ensures) in
    record {
      wide = s.wide;
      rooms = s.rooms;
      most = s.most;
      least = s.least;
      whole = λ used. c.put.auto.bytes ∙ s.whole used;
      refused = λ k h. omega (arith, h.0);
      fits = omega (arith, room);
      apart = λ u v h. g.keys.apart u v h.0 h.1 (omega (arith, h.2)) (omega (arith, h.3)) h.4;
      parents = λ v h. g.keys.down v h.0 (omega (arith, h.1));
      filled = λ k used. g.filled k;
    }

pub returns : goal.returns
returns c =
    let s : CompactMap = c.args.self.now in
    let low : c.args.u ≤ s.later = omega (arith, count_is s) in
    let room : s.later + 1 < 9 * s.set.slots / 10 = omega (arith, count_is s) in
    record {
      next = grown_map s c.args.u c.args.c low c.requires.1.0 room c.requires.1.1.1 c.put.new.bytes c.put.auto.bytes (rw c.from.ensures at c.put.ensures);
      memory = grown_memory s c.args.u c.args.c low c.requires.1.0 room c.requires.1.1.1 c.put.new.bytes c.put.auto.bytes (rw c.from.ensures at c.put.ensures);
      lender = refl;
    }
