use Rattle.std.proofs.Common.{◌≡◌, ℕ, ◌+◌, ◌*◌, ◌^◌, ◌<◌, ◌≤◌, List, length, Ok, sym, refl, ap, ◌∙◌, subst, ap₂, arith}
use Rattle.rules.specs.declared.step.Step.TheVariants.{By32}
use Rattle.rules.specs.Tree.{Edge}
use Rattle.parts.specs.Maps.{Map, double_answer, double_next}
use Rattle.parts.specs.Sizes.{rooms_to}
use Rattle.parts.proofs.Powers.{rooms_next}
use Rattle.parts.proofs.Answered.{double_more}
use Rattle.compact_map.specs.Memory.{memory_of}
use Rattle.compact_map.specs.Table.{Filled, Stored, key_in}
use Rattle.compact_map.specs.declared.table.Set.{Set}
use Rattle.compact_map.specs.declared.shape.CompactMap.{CompactMap}
use Rattle.compact_map.specs.Meaning.{capacity, bytes_of, meaning_of}
use Rattle.compact_map.proofs.Doubling.{pow_more}
use Rattle.compact_map.proofs.Memories.{map_of}
use Rattle.compact_map.proofs.Meant.{stored_of, wider, doubled_stored, doubled_edges, doubled_memory}
use Rattle.compact_map.proofs.shape.CompactMap.widen.Goals as goal

pub double-self-requires : goal.double-self-requires
double-self-requires c =
    let s : CompactMap = c.args.self.now in
    let w : 2 * s.set.slots ≤ s.set.large = wider s c.requires in
    let used : 2 < s.set.large = omega arith in
    record { inside = omega (arith, s.whole used); wider = w; small = omega arith; room = omega arith; stored = stored_of s used }

-- the bytes, by the set that is in use now
module _ (s : CompactMap) (set : Set) (new : List ℕ) (m : s.set.log < s.top) (el : set.log ≡ s.set.log + 1) (eg : set.large ≡ s.set.large) (long : length new ≡ length (bytes_of s))
    (filled : Filled By32 (s.set.log + 1) s.set.large (key_in By32 (bytes_of s) s.set.log s.set.large) s.later (bytes_of s) new) where
  stored_now : Stored By32 set.log set.large s.later new
  stored_now =
      subst (λ (x : ℕ). Stored By32 x set.large s.later new) (sym el)
      (subst (λ (x : ℕ). Stored By32 (s.set.log + 1) x s.later new) (sym eg) (doubled_stored s m new long filled))

  keys_now : key_in By32 new set.log set.large ≡ key_in By32 new (s.set.log + 1) s.set.large
  keys_now = ap₂ (λ (x y : ℕ). key_in By32 new x y) el eg

  map_now : map_of (key_in By32 new set.log set.large) s.later set.log s.top ≡ map_of (key_in By32 new (s.set.log + 1) s.set.large) s.later (s.set.log + 1) s.top
  map_now = ap₂ (λ (K : ℕ → ℕ) (l : ℕ). map_of K s.later l s.top) keys_now el

  next_is : (double_answer (meaning_of s) ≡ Ok (capacity (2 ^ (s.set.log + 1))))
      × (double_next (meaning_of s) ≡ record { edges = (meaning_of s).edges; room = capacity (2 ^ (s.set.log + 1)); coming = rooms_to capacity (s.set.log + 1) s.top })
  next_is =
      double_more (meaning_of s) (capacity (2 ^ (s.set.log + 1))) (rooms_to capacity (s.set.log + 1) s.top)
      (rooms_next capacity s.set.log (s.set.log + 1) s.top (omega arith) m)

  meaning_now : map_of (key_in By32 new set.log set.large) s.later set.log s.top ≡ double_next (meaning_of s)
  meaning_now = map_now ∙ ap edged (doubled_edges s m new long filled) ∙ sym next_is.1
    where
      edged : List Edge → Map
      edged es = record { edges = es; room = capacity (2 ^ (s.set.log + 1)); coming = rooms_to capacity (s.set.log + 1) s.top }

  memory_now : new ≡ memory_of By32 (map_of (key_in By32 new set.log set.large) s.later set.log s.top) (bytes_of s)
  memory_now = doubled_memory s m new long filled ∙ ap (λ (x : Map). memory_of By32 x (bytes_of s)) (sym map_now)

pub invariant_of-self : goal.invariant_of-self
invariant_of-self c =
    let s : CompactMap = c.args.self.now in
    let t : Set = c.double-self.result in
    let w : 2 * s.set.slots ≤ s.set.large = wider s c.requires in
    let el : t.log ≡ s.set.log + 1 = c.double-self.ensures.log in
    let eg : t.large ≡ s.set.large = c.double-self.ensures.large in
    let p : 2 ^ t.log ≡ 2 * 2 ^ s.set.log = ap (λ (x : ℕ). 2 ^ x) el ∙ pow_more s.set.log in
    let g : Stored By32 t.log t.large s.later c.double-self.new.bytes
    = stored_now s t c.double-self.new.bytes c.requires el eg c.double-self.auto.bytes c.double-self.ensures.filled in
    record {
      wide = eg ∙ s.wide;
      rooms = omega arith;
      most = s.most;
      least = λ used. omega (arith, s.least (let q : 2 < s.set.large = omega arith in q));
      whole = λ used. c.double-self.auto.bytes ∙ s.whole (let q : 2 < s.set.large = omega arith in q) ∙ ap (λ (x : ℕ). 14 * x) (sym eg);
      refused = λ k h. omega (arith, h.0);
      fits = omega arith;
      apart = λ u v h. g.keys.apart u v h.0 h.1 h.2 h.3 h.4;
      parents = λ v h. g.keys.down v h.0 h.1;
      filled = λ k used. g.filled k;
    }

pub returns : goal.returns
returns c =
    let s : CompactMap = c.args.self.now in
    let t : Set = c.double-self.result in
    let el : t.log ≡ s.set.log + 1 = c.double-self.ensures.log in
    let eg : t.large ≡ s.set.large = c.double-self.ensures.large in
    record {
      answer = ap Ok (c.room.ensures ∙ ap (λ (x : ℕ). capacity (2 ^ x)) el)
          ∙ sym (next_is s t c.double-self.new.bytes c.requires el eg c.double-self.auto.bytes c.double-self.ensures.filled).0;
      next = meaning_now s t c.double-self.new.bytes c.requires el eg c.double-self.auto.bytes c.double-self.ensures.filled;
      memory = memory_now s t c.double-self.new.bytes c.requires el eg c.double-self.auto.bytes c.double-self.ensures.filled;
      lender = refl;
    }
