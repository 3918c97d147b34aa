use Rattle.std.proofs.Common.{◌≡◌, ℕ, ◌<◌, subst, arith}
use Rattle.compact_map.specs.Slots.{displacement_in}
use Rattle.compact_map.specs.Layout.{onward}
use Rattle.compact_map.specs.Table.{slot_at, Taken}
use Rattle.compact_map.proofs.Search.{none_passed, none_left, found}
use Rattle.compact_map.proofs.table.View.find_from.Goals as goal

pub returns-then-found-head : goal.returns-then-found-head
returns-then-found-head c =
    let e = found c.args.self.now.set.slots (slot_at c.args.self.now.bytes.now c.args.self.now.set.start) c.args.home c.args.quotient c.loop-d.d c.around-at.result c.requires.home
    c.loop-d-test.true (omega arith) (grind arith) (omega (arith, c.head-found.ensures.is, c.head-found.ensures.short))
    (omega (arith, c.head-found.ensures.is, c.if-found-head.true, c.head.ensures)) in
    rw (c.number_in.ensures, c.word.ensures) e

pub returns-then-found-lt-TAKEN_HEAD : goal.returns-then-found-lt-TAKEN_HEAD
returns-then-found-lt-TAKEN_HEAD c =
    none_left c.args.self.now.set.slots (slot_at c.args.self.now.bytes.now c.args.self.now.set.start) c.args.home c.args.quotient c.loop-d.d c.requires.full c.loop-d.invariant
    (λ t. omega (arith, c.if-found-lt-TAKEN_HEAD.true, c.head-found.ensures.is, subst (λ (x : ℕ). Taken (slot_at c.args.self.now.bytes.now c.args.self.now.set.start x)) (let e : onward c.args.self.now.set.slots c.args.home c.loop-d.d ≡ c.around-at.result = grind arith in e) t))

pub returns : goal.returns
returns c i h =
    none_passed c.args.self.now.set.slots (slot_at c.args.self.now.bytes.now c.args.self.now.set.start) c.args.home c.args.quotient c.args.self.now.set.slots i
    (λ j l. c.loop-d.invariant j (omega arith)) h short short
  where
    short : displacement_in (slot_at c.args.self.now.bytes.now c.args.self.now.set.start i) < c.args.self.now.set.slots
    short = c.requires.full.short i h.inside h.taken
