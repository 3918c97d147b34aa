use Rattle.std.proofs.Common.{◌≡◌, ℕ, ◌+◌, ◌-◌, ◌*◌, ◌^◌, ◌<◌, ◌≤◌, List, refl, subst, arith}
use Rattle.rules.specs.declared.step.Step.TheVariants.{By32}
use Rattle.compact_map.specs.Memory.{set_start}
use Rattle.compact_map.specs.Table.{key_in, Filled, Stored}
use Rattle.compact_map.specs.declared.table.Set.{Set}
use Rattle.compact_map.proofs.Filled.{filled_again}
use Rattle.compact_map.proofs.Doubling.{Turn, pow_more, other_start, other_fits, turn, cleared_stored, cleared_filled}
use Rattle.compact_map.proofs.table.Set.double.Goals as goal

-- twice the slots are there, and the slots in use lie within the sets
wider : (s : Set) → 2 * s.slots ≤ s.large → 2 * 2 ^ s.log ≤ s.large
wider s h = omega arith

within : (s : Set) → set_start s.log s.large + 6 * 2 ^ s.log ≤ 12 * s.large
within s = omega arith

-- the bytes once the other set is empty
module _ (from : Set) (n : ℕ) (old mid : List ℕ) (wide : 2 * from.slots ≤ from.large) (small : from.log < 15) (room : n < from.slots)
    (was : Stored By32 from.log from.large n old) (cleared : (K : ℕ → ℕ) → Filled By32 (from.log + 1) from.large K 0 old mid) where
  emptied : Stored By32 from.log from.large n mid
  emptied = cleared_stored from.log from.large (wider from wide) old n (within from) (omega arith) (omega arith) was mid cleared

  turned : (bs : List ℕ) (v : ℕ) → 1 ≤ v → v ≤ n → Filled By32 (from.log + 1) from.large (key_in By32 mid from.log from.large) (v - 1) mid bs → Turn from.log from.large mid bs v
  turned bs v some more way = turn from.log from.large (wider from wide) mid n (within from) (omega arith) (omega arith) emptied bs (v - 1) way (omega arith) v (omega arith)

  doubled : (new : List ℕ) (done : ℕ) → done ≡ n → Filled By32 (from.log + 1) from.large (key_in By32 mid from.log from.large) done mid new
      → Filled By32 (from.log + 1) from.large (key_in By32 old from.log from.large) n old new
  doubled new done e f =
      cleared_filled from.log from.large (wider from wide) old n (within from) (omega arith) (omega arith) was mid cleared new
      (subst (λ (x : ℕ). Filled By32 (from.log + 1) from.large (key_in By32 mid from.log from.large) x mid new) e f)

pub invariant_of-to : goal.invariant_of-to
invariant_of-to c =
    let s : Set = c.args.self in
    let w : 2 * 2 ^ s.log ≤ s.large = wider s c.requires.wider in
    let e : set_start (s.log + 1) s.large ≡ 6 * s.large - set_start s.log s.large = other_start s.log s.large w in
    record {
      wide = omega (arith, pow_more s.log);
      small = omega arith;
      reach = omega arith;
      most = s.most;
      begins = omega arith;
      fits = omega (arith, other_fits s.log s.large w, pow_more s.log);
    }

pub loop-v-init : goal.loop-v-init
loop-v-init c =
    let s : Set = c.args.self in
    record {
      near = omega arith;
      filled = filled_again (s.log + 1) s.large (other_fits s.log s.large (wider s c.requires.wider)) (key_in By32 c.clear.new.bytes s.log s.large) 0
          c.args.bytes.now c.clear.new.bytes (c.clear.ensures (key_in By32 c.clear.new.bytes s.log s.large));
    }

pub key_of-key-requires : goal.key_of-key-requires
key_of-key-requires c =
    let t = turned c.args.self c.args.n c.args.bytes.now c.clear.new.bytes c.requires.wider c.requires.small c.requires.room c.requires.stored c.clear.ensures
    c.loop-v.bytes c.loop-v.v c.loop-v.auto.v c.loop-v-test.true c.loop-v.invariant.filled in
    record { node = omega arith; place = t.inside; taken = t.taken; near = t.near }

pub put-requires : goal.put-requires
put-requires c =
    let t = turned c.args.self c.args.n c.args.bytes.now c.clear.new.bytes c.requires.wider c.requires.small c.requires.room c.requires.stored c.clear.ensures
    c.loop-v.bytes c.loop-v.v c.loop-v.auto.v c.loop-v-test.true c.loop-v.invariant.filled in
    record { inside = omega arith; node = omega arith; vacant = t.vacant c.key_of-key.result }

pub loop-v-preserved : goal.loop-v-preserved
loop-v-preserved c =
    let t = turned c.args.self c.args.n c.args.bytes.now c.clear.new.bytes c.requires.wider c.requires.small c.requires.room c.requires.stored c.clear.ensures
    c.loop-v.bytes c.loop-v.v c.loop-v.auto.v c.loop-v-test.true c.loop-v.invariant.filled in
    record {
      near = omega arith;
      filled = subst (λ (x : ℕ). Filled By32 (c.args.self.log + 1) c.args.self.large (key_in By32 c.clear.new.bytes c.args.self.log c.args.self.large) x c.clear.new.bytes c.put.new.bytes)
          (let e : c.loop-v.v ≡ c.loop-v.v + 1 - 1 = omega arith in e) (t.next c.key_of-key.result c.put.new.bytes c.key_of-key.ensures c.put.ensures);
    }

pub returns : goal.returns
returns c = record {
  log = refl;
  large = refl;
  filled = doubled c.args.self c.args.n c.args.bytes.now c.clear.new.bytes c.requires.wider c.requires.small c.requires.room c.requires.stored c.clear.ensures
      c.loop-v.bytes (c.loop-v.v - 1) (omega arith) c.loop-v.invariant.filled;
}

pub returns-2 : goal.returns-2
returns-2 c =
    let t = turned c.args.self c.args.n c.args.bytes.now c.clear.new.bytes c.requires.wider c.requires.small c.requires.room c.requires.stored c.clear.ensures
    c.loop-v.bytes c.loop-v.v c.loop-v.auto.v c.loop-v-test.true c.loop-v.invariant.filled in
    record {
      log = refl;
      large = refl;
      filled = doubled c.args.self c.args.n c.args.bytes.now c.clear.new.bytes c.requires.wider c.requires.small c.requires.room c.requires.stored c.clear.ensures
          c.put.new.bytes c.loop-v.v (omega arith) (t.next c.key_of-key.result c.put.new.bytes c.key_of-key.ensures c.put.ensures);
    }
