use Rattle.std.proofs.Common.{rules, ◌≡◌, ℕ, ◌+◌, ◌^◌, ◌<◌, ◌≤◌, List, length, set, false, is_some, None, Ok, Err, Option, Result, sym, refl, ap, ◌∙◌, arith, length-set}
use Rattle.std.proofs.lemmas.Result.{err_from_is_err_and}
use Rattle.std.proofs.lemmas.Bool.{true≢false}
use Rattle.tags.specs.declared.refusal.MapFault.{MapFault}
use Rattle.rules.specs.declared.step.Step.TheVariants.{By32}
use Rattle.rules.specs.Tree.{Edge, edge_of, child}
use Rattle.parts.specs.Maps.{Map, MapFacts, count_of, asked, add_answer, add_next, with_edge}
use Rattle.parts.specs.Sizes.{rooms_to}
use Rattle.parts.proofs.Children.{no_child, count_more, facts_more}
use Rattle.parts.proofs.Answered.{some_is, none_is, add_out, add_taken, add_full, add_made, next_kept, next_made}
use Rattle.sibling_map.specs.declared.record.NodeRecord.{NodeRecord}
use Rattle.sibling_map.specs.declared.shape.SiblingMap.{SiblingMap}
use Rattle.sibling_map.specs.Meaning.{capacity, meaning_of, records_for, add_records}
use Rattle.sibling_map.proofs.Read.{laid_at}
use Rattle.sibling_map.proofs.Linked.{linked, edges_linked, at_linked, laid_linked, at_beyond, edges_beyond}
use Rattle.sibling_map.proofs.Facts.{count_is, facts_of, pair_in_lem, in_use, inside, Held, held}
use Rattle.sibling_map.proofs.map.SiblingMapNodeMap.add.Goals as goal

-- a fault leaves the map and its records
refused : (s : SiblingMap) (u c : ℕ) (fault : MapFault) → add_answer By32 (meaning_of s) u c ≡ Err fault
    → (Err fault ≡ add_answer By32 (meaning_of s) u c) × (meaning_of s ≡ add_next By32 (meaning_of s) u c) × (s.records.now ≡ add_records s u c)
refused s u c fault a =
    (sym a, sym (next_kept By32 (meaning_of s) u c fault a), sym (ap (λ (x : Result ℕ MapFault). records_for x (add_next By32 (meaning_of s) u c).edges s.records.now) a))

pub returns-in_err-check_pair : goal.returns-in_err-check_pair
returns-in_err-check_pair c =
    let s : SiblingMap = c.args.self.now in
    let p = err_from_is_err_and c.from_residual.result c.from_residual.ensures.1 in
    let a = add_out By32 (meaning_of s) c.args.u c.args.c _ (sym c.in_err-check_pair.ensures) in
    let r = refused s c.args.u c.args.c _ a in
    rw (p.1, p.2) (record { answer = r.0; next = r.1; kept = λ e. refl; memory = r.2; lender = refl })

pub find-requires : goal.find-requires
find-requires c =
    let s : SiblingMap = c.args.self.now in
    let h = pair_in_lem s c.args.u c.args.c c.in_ok-check_pair.ensures in
    omega (arith, h.0, count_is s.records.now s.later)

pub returns-then-is_some : goal.returns-then-is_some
returns-then-is_some c =
    let s : SiblingMap = c.args.self.now in
    let h = pair_in_lem s c.args.u c.args.c c.in_ok-check_pair.ensures in
    let v = some_is c.find.result c.if-is_some.ensures in
    let a = add_taken By32 (meaning_of s) c.args.u c.args.c v.0 h.0 h.1 (sym c.find.ensures ∙ v.1) in
    let r = refused s c.args.u c.args.c _ a in record { answer = r.0; next = r.1; kept = λ e. refl; memory = r.2; lender = refl }

pub returns-then-v-room_at : goal.returns-then-v-room_at
returns-then-v-room_at c =
    let s : SiblingMap = c.args.self.now in
    let h = pair_in_lem s c.args.u c.args.c c.in_ok-check_pair.ensures in
    let full : 2 ^ s.log ≤ count_of (meaning_of s) = omega (arith, count_is s.records.now s.later) in
    let a = add_full By32 (meaning_of s) c.args.u c.args.c h.0 h.1 (sym c.find.ensures ∙ none_is c.find.result c.if-is_some.ensures) full in
    let r = refused s c.args.u c.args.c _ a in record { answer = r.0; next = r.1; kept = λ e. refl; memory = r.2; lender = refl }

-- what the way to the writes has tested
record Way (s : SiblingMap) (u c : ℕ) : Type 0 where
  low : u ≤ s.later
  used : 0 < s.top
  room : s.later + 1 < length s.records.now
  answer : add_answer By32 (meaning_of s) u c ≡ Ok (s.later + 1)
  facts : MapFacts By32 (with_edge (meaning_of s) u c)

way : (s : SiblingMap) (u c room : ℕ) (found : Option ℕ) → Ok tt ≡ asked {A = Unit {0}} By32 (meaning_of s) u c (Ok tt) → found ≡ child (meaning_of s).edges u c
    → false ≡ is_some found → room ≡ 2 ^ s.log → s.later + 1 < room → Way s u c
way s u c room found asked is none e less =
    let h = pair_in_lem s u c asked in
    let free : child (meaning_of s).edges u c ≡ None = sym is ∙ none_is found none in
    let used : 0 < s.top = in_use s (omega arith) in
    let left : count_of (meaning_of s) < 2 ^ s.log = omega (arith, count_is s.records.now s.later) in
    record {
      low = omega (arith, h.0, count_is s.records.now s.later);
      used = used;
      room = inside s (s.later + 1) used (omega arith);
      answer = add_made By32 (meaning_of s) u c h.0 h.1 free left ∙ ap Ok (count_is s.records.now s.later);
      facts = facts_more By32 (meaning_of s) u c (facts_of s) h.0 h.1 (no_child (meaning_of s).edges u c free) left;
    }

-- the parents of the nodes, the new one's too
parents_of : (s : SiblingMap) (u c : ℕ) → Way s u c → (w : ℕ) → 0 < w → w ≤ s.later + 1
    → (edge_of (with_edge (meaning_of s) u c).edges w).parent < w
parents_of s u c y w a b =
    y.facts.parents w a (omega (arith, count_more (meaning_of s).edges (record { parent = u; symbol = c }), count_is s.records.now s.later))

held_beyond : (s : SiblingMap) (r : NodeRecord) → Held s.top (set s.records.now (s.later + 1) r) s.later
held_beyond s r =
    let past : s.later < s.later + 1 = omega arith in
    held s.top (set s.records.now (s.later + 1) r) s.later (meaning_of s) (facts_of s)
    (edges_beyond s.records.now s.later (s.later + 1) r past)
    (λ v used h. at_beyond s.records.now s.later (s.later + 1) r past v h ∙ laid_at s.top s.records.now s.later v s.laid used h)

held_linked : (s : SiblingMap) (u c : ℕ) → Way s u c → Held s.top (linked s.records.now (s.later + 1) u c) (s.later + 1)
held_linked s u c y =
    held s.top (linked s.records.now (s.later + 1) u c) (s.later + 1) (with_edge (meaning_of s) u c) y.facts
    (edges_linked s.records.now s.later u c y.low y.room)
    (λ v used h. at_linked s.records.now s.later u c y.low y.room s.top s.laid used (parents_of s u c y) v h)

pub bounds-self-u : goal.bounds-self-u
bounds-self-u c = let y = way c.args.self.now c.args.u c.args.c c.room_at.result _ c.in_ok-check_pair.ensures c.find.ensures c.if-is_some.ensures c.room_at.ensures (omega arith) in
    omega (arith, y.low, y.room)

pub bounds-self-v : goal.bounds-self-v
bounds-self-v c = let y = way c.args.self.now c.args.u c.args.c c.room_at.result _ c.in_ok-check_pair.ensures c.find.ensures c.if-is_some.ensures c.room_at.ensures (omega arith) in y.room

pub invariant_of-self : goal.invariant_of-self
invariant_of-self c =
    let s : SiblingMap = c.args.self.now in
    record {
      fits = s.fits;
      rooms = s.rooms;
      most = s.most;
      whole = λ used. simp length-set (s.whole used);
      parents = (held_beyond s _).parents;
      symbols = (held_beyond s _).symbols;
      distinct = (held_beyond s _).distinct;
      laid = (held_beyond s _).laid;
    }

pub bounds-self-u-2 : goal.bounds-self-u-2
bounds-self-u-2 c = let y = way c.args.self.now c.args.u c.args.c c.room_at.result _ c.in_ok-check_pair.ensures c.find.ensures c.if-is_some.ensures c.room_at.ensures (omega arith) in simp length-set (omega (arith, y.low, y.room))

pub invariant_of-self-2 : goal.invariant_of-self-2
invariant_of-self-2 c =
    let s : SiblingMap = c.args.self.now in
    let k = held_linked s c.args.u c.args.c (way c.args.self.now c.args.u c.args.c c.room_at.result _ c.in_ok-check_pair.ensures c.find.ensures c.if-is_some.ensures c.room_at.ensures (omega arith)) in
    record {
      fits = omega arith;
      rooms = s.rooms;
      most = s.most;
      whole = λ used. simp length-set (s.whole used);
      parents = k.parents;
      symbols = k.symbols;
      distinct = k.distinct;
      laid = k.laid;
    }

pub returns : goal.returns
returns c =
    let s : SiblingMap = c.args.self.now in
    let u : ℕ = c.args.u in
    let b : ℕ = c.args.c in
    let y : Way s u b = way c.args.self.now c.args.u c.args.c c.room_at.result _ c.in_ok-check_pair.ensures c.find.ensures c.if-is_some.ensures c.room_at.ensures (omega arith) in
    let n : add_next By32 (meaning_of s) u b ≡ with_edge (meaning_of s) u b = next_made By32 (meaning_of s) u b _ y.answer in
    record {
      answer = sym y.answer;
      next = ap (λ (es : List Edge). record { edges = es; room = capacity (2 ^ s.log); coming = rooms_to capacity s.log s.top })
          (edges_linked s.records.now s.later u b y.low y.room) ∙ sym n;
      kept = λ e. absurd (true≢false e);
      memory = laid_linked s.records.now s.later u b y.low y.room s.top s.laid y.used (parents_of s u b y)
          ∙ sym (ap (λ (x : Result ℕ MapFault). records_for x (add_next By32 (meaning_of s) u b).edges s.records.now) y.answer
          ∙ ap (λ (m : Map). records_for (Ok (s.later + 1)) m.edges s.records.now) n);
      lender = refl;
    }

pub overflow_cast-self : goal.overflow_cast-self
overflow_cast-self c =
    let s : SiblingMap = c.args.self.now in
    let low : c.args.u ≤ s.later = (way s c.args.u c.args.c c.room_at.result _ c.in_ok-check_pair.ensures c.find.ensures c.if-is_some.ensures c.room_at.ensures (omega arith)).low in
    search rules
