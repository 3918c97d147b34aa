use Rattle.std.proofs.Common.{◌≡◌, ◌*◌, ◌/◌, ◌^◌, ◌≤◌, length, Some, refl, ap, ◌∙◌, arith, pow_mono}
use Rattle.rules.specs.declared.step.Step.TheVariants.{By32}
use Rattle.parts.specs.Sizes.{PowerOf, map_for}
use Rattle.compact_map.specs.Table.{key_in, Filled}
use Rattle.compact_map.specs.Meaning.{capacity}
use Rattle.compact_map.proofs.Filled.{filled_again}
use Rattle.compact_map.proofs.Memories.{memory_is}
use Rattle.compact_map.proofs.shape.CompactMap.empty.Goals as goal

pub invariant_of-set : goal.invariant_of-set
invariant_of-set c =
    let z : PowerOf (length c.args.bytes.now) 14 (Some c.args.top) = c.requires.1 in
    let low : 2 ^ 4 ≤ 2 ^ c.args.top = pow_mono z.1 in
    let high : 2 ^ c.args.top ≤ 2 ^ 15 = pow_mono z.2 in
    record {
      wide = refl;
      small = omega arith;
      reach = omega (arith, z.0);
      most = omega (arith, z.0);
      begins = omega arith;
      fits = omega (arith, z.0);
    }

pub invariant_of-result : goal.invariant_of-result
invariant_of-result c =
    let z : PowerOf (length c.args.bytes.now) 14 (Some c.args.top) = c.requires.1 in
    let low : 2 ^ 4 ≤ 2 ^ c.args.top = pow_mono z.1 in
    let is : length c.args.bytes.now ≡ 14 * 2 ^ c.args.top = z.0 in
    let f : Filled By32 4 (length c.args.bytes.now / 14) (key_in By32 c.clear.new.bytes 4 (length c.args.bytes.now / 14)) 0 c.clear.new.bytes c.clear.new.bytes
    = filled_again 4 (length c.args.bytes.now / 14) (omega arith) _ 0 c.args.bytes.now c.clear.new.bytes (c.clear.ensures _) in
    record {
      wide = omega arith;
      rooms = z.1;
      most = z.2;
      least = λ used. omega arith;
      whole = λ used. c.clear.auto.bytes ∙ (let e : length c.args.bytes.now ≡ 14 * (length c.args.bytes.now / 14) = omega arith in e);
      refused = λ k h. omega (arith, h.0);
      fits = omega arith;
      apart = λ u v h. absurd (omega (arith, h.0, h.2));
      parents = λ v h. absurd (omega (arith, h.0, h.1));
      filled = λ k used. f k;
    }

pub returns : goal.returns
returns c =
    let z : PowerOf (length c.args.bytes.now) 14 (Some c.args.top) = c.requires.1 in
    let low : 2 ^ 4 ≤ 2 ^ c.args.top = pow_mono z.1 in
    let is : length c.args.bytes.now ≡ 14 * 2 ^ c.args.top = z.0 in
    record {
      meaning = ap (map_for capacity) c.requires.0;
      memory = memory_is 4 (length c.args.bytes.now / 14) c.args.top (key_in By32 c.clear.new.bytes 4 (length c.args.bytes.now / 14)) 0 c.args.bytes.now c.clear.new.bytes (omega arith) (omega arith) z.1 z.2 z.1 (omega arith) c.clear.auto.bytes
          (c.clear.ensures _);
      lender = refl;
    }
