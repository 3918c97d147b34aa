use Rattle.std.proofs.Common.{◌<◌, ◌^◌, rules}
use Rattle.std.proofs.lemmas.Iterator.{first_from_Range}
use borrow.Author.Tests.{tests}
use Rattle.compact_map.specs.Layout.{onward}
use Rattle.compact_map.specs.Table.{Taken, slot_at}
use Rattle.compact_map.proofs.Seek.{first_found}
use Rattle.compact_map.proofs.table.View.find_empty.Goals as goal

pub returns : goal.returns
returns c =
    first_found c.args.self.now.set.slots (slot_at c.args.self.now.bytes.now c.args.self.now.set.start) c.args.home c.find.result
    (first_from_Range _ _ _ c.find.result (λ x. slot_at c.args.self.now.bytes.now c.args.self.now.set.start (onward c.args.self.now.set.slots c.args.home x) < 2 ^ 47)
    (λ x. Taken (slot_at c.args.self.now.bytes.now c.args.self.now.set.start (onward c.args.self.now.set.slots c.args.home x))) c.find.ensures.ran (λ x q k. search (rules, tests))
    (λ x q k. search (rules, tests)))
