use Rattle.std.proofs.Common.{ℕ, ◌+◌, ◌*◌, ◌^◌, ◌<◌, sym, subst, arith}
use Rattle.compact_map.specs.Bytes.{Written}
use Rattle.compact_map.specs.Memory.{set_start}
use Rattle.compact_map.specs.Table.{slot_at}
use Rattle.compact_map.proofs.HeldKeys.{quotient_lt}
use Rattle.compact_map.proofs.Putting.{vacant_as, placed}
use Rattle.compact_map.proofs.Seek.{some_found}
use Rattle.compact_map.proofs.table.Set.put.Goals as goal

pub unwrap-d-requires : goal.unwrap-d-requires
unwrap-d-requires c =
    some_found c.args.self.slots (slot_at c.args.bytes.now c.args.self.start) c.home_and_quotient-home.result.0 c.find_empty.result c.find_empty.ensures
    (vacant_as c.args.bytes.now c.args.self.log c.args.self.slots c.args.self.start (set_start c.args.self.log c.args.self.large) c.home_and_quotient-home.result.0 c.args.key
    c.args.self.wide c.args.self.begins c.home_and_quotient-home.ensures.home c.requires.vacant)

pub invariant_of-slot : goal.invariant_of-slot
invariant_of-slot c =
    let f = rw c.unwrap-d.ensures at c.find_empty.ensures in
    record {
      quotient_fits = subst (λ (x : ℕ). x < 2 ^ 13) (sym c.home_and_quotient-home.ensures.quotient) (quotient_lt c.args.self.log c.args.key);
      displacement_fits = omega (arith, f.near);
      number_fits = omega arith;
    }

pub returns : goal.returns
returns c =
    placed c.args.self.log c.args.self.large c.args.self.slots c.args.self.start c.args.v c.args.key c.home_and_quotient-home.result.0 c.home_and_quotient-home.result.1
    c.unwrap-d.result c.pack.result c.args.bytes.now c.write_number.new.bytes c.write_number-2.new.bytes c.args.self.wide c.args.self.begins
    c.home_and_quotient-home.ensures.home c.home_and_quotient-home.ensures.quotient c.requires.vacant (rw c.unwrap-d.ensures at c.find_empty.ensures) c.pack.ensures
    (subst (λ (at : ℕ). Written 6 c.args.bytes.now c.write_number.new.bytes (c.args.self.start + 6 * at) c.pack.result) c.around-at.ensures c.write_number.ensures)
    (subst (λ (at : ℕ). Written 2 c.write_number.new.bytes c.write_number-2.new.bytes (12 * c.args.self.large + 2 * c.args.v) at) c.around-at.ensures c.write_number-2.ensures)
    c.args.self.fits
