use Rattle.std.proofs.Common.{◌≡◌, ℕ, ◌*◌, ◌^◌, ◌<◌, ◌≤◌, length, None, Option, refl, ap, arith, length-set, pow_mono}
use Rattle.parts.specs.Sizes.{power_for, rooms_after, map_for}
use Rattle.sibling_map.specs.Meaning.{capacity, start_records}
use Rattle.sibling_map.proofs.Start.{start_laid}
use Rattle.sibling_map.proofs.shape.SiblingMap.new.Goals as goal

-- the number of records that a map uses
enough : (n top : ℕ) → n ≡ 1 * 2 ^ top → 4 ≤ top → 0 < n
enough n top e h = let p : 2 ^ 4 ≤ 2 ^ top = pow_mono h in omega arith

pub returns-in_default : goal.returns-in_default
unfolding rooms_after
returns-in_default c =
    let e : None ≡ power_for (length c.args.records.now) 1 = c.in_default.ensures.power in
    record { meaning = ap (map_for capacity) e; memory = ap (λ (o : Option ℕ). start_records o c.args.records.now) e; lender = refl }

pub invariant_of-result-2 : goal.invariant_of-result-2
invariant_of-result-2 c =
    let is : length c.args.records.now ≡ 1 * 2 ^ c.in-Some.top = c.in-Some.ensures.relation.0 in
    let low : 4 ≤ c.in-Some.top = c.in-Some.ensures.relation.1 in
    let some : 0 < length c.args.records.now = enough _ _ is low in record {
      fits = omega arith;
      rooms = low;
      most = c.in-Some.ensures.relation.2;
      whole = λ used. simp length-set (omega arith);
      parents = λ v h. h.0;
      symbols = λ v h. omega arith;
      distinct = λ v w h. omega (arith, h.0, h.1, h.2, h.3);
      laid = start_laid c.args.records.now some c.in-Some.top;
    }
