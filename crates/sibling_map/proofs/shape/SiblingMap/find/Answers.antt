use Rattle.std.proofs.Common.{◌≡◌, ℕ, ◌^◌, ◌<◌, ◌≤◌, List, Some, None, Option, sym, ap, ◌∙◌, subst, arith}
use Rattle.rules.specs.declared.step.Step.TheVariants.{By32}
use Rattle.rules.specs.Tree.{Edge, edge_of}
use Rattle.parts.proofs.Children.{child_some, child_none}
use Rattle.sibling_map.specs.declared.record.NodeRecord.{NodeRecord}
use Rattle.sibling_map.specs.declared.shape.SiblingMap.{SiblingMap}
use Rattle.sibling_map.specs.Records.{at, edges_in}
use Rattle.sibling_map.specs.Meaning.{meaning_of}
use Rattle.sibling_map.proofs.Newest.{top, Walk, begins, at_child, goes_on}
use Rattle.sibling_map.proofs.Read.{length_edges, edge_in_lem, laid_at}
use Rattle.sibling_map.proofs.Facts.{count_is, facts_of, in_use, inside}
use Rattle.sibling_map.proofs.shape.SiblingMap.find.Goals as goal

-- a walk that stands at node v, in a map that uses its records
record Here (s : SiblingMap) (u c v : ℕ) : Type 0 where
  some : 0 < v
  high : v ≤ s.later
  used : 0 < s.top
  edge : edge_of (edges_in s.records.now s.later) v ≡ record { parent = (at s.records.now v).parent; symbol = (at s.records.now v).symbol }
  parent : (edge_of (edges_in s.records.now s.later) v).parent ≡ u

here : (s : SiblingMap) (u c v : ℕ) (o : Option ℕ) → Walk (edges_in s.records.now s.later) u c o → o ≡ Some v → Here s u c v
here s u c v o w e =
    let k = at_child (edges_in s.records.now s.later) u c v (subst (Walk (edges_in s.records.now s.later) u c) e w) in
    let high : v ≤ s.later = omega (arith, k.1, length_edges s.records.now s.later) in
    record {
      some = k.0;
      high = high;
      used = in_use s (omega (arith, s.fits, k.0));
      edge = edge_in_lem s.records.now s.later v k.0 high;
      parent = k.2;
    }

pub returns-then-self-eq0 : goal.returns-then-self-eq0
returns-then-self-eq0 c =
    let s : SiblingMap = c.args.self.now in
    sym (child_none (edges_in s.records.now s.later) c.args.u c.args.c
    (λ v a b e f.
    let room : 1 < 2 ^ s.log = omega (arith, s.fits, count_is s.records.now s.later) in
    omega (arith, in_use s room, c.if-self-eq0.true)))

pub bounds-self-u : goal.bounds-self-u
bounds-self-u c =
    let s : SiblingMap = c.args.self.now in
    let differs : s.top ≡ 0 → ⊥ = c.if-self-eq0.false in
    inside s c.args.u (omega arith) (omega (arith, s.fits, c.requires))

pub loop-at-init : goal.loop-at-init
loop-at-init c =
    let s : SiblingMap = c.args.self.now in
    let differs : s.top ≡ 0 → ⊥ = c.if-self-eq0.false in
    let used : 0 < s.top = omega arith in
    subst (λ (r : NodeRecord). Walk (edges_in s.records.now s.later) c.args.u c.args.c r.first)
    (sym (laid_at s.top s.records.now s.later c.args.u s.laid used c.requires))
    (begins (edges_in s.records.now s.later) c.args.u c.args.c)

pub bounds-self-v : goal.bounds-self-v
bounds-self-v c =
    let s : SiblingMap = c.args.self.now in
    let h = here s c.args.u c.args.c c.in-Some.v c.loop-at.at c.loop-at.invariant c.in-Some.is in
    inside s c.in-Some.v h.used (omega (arith, s.fits, h.high))

pub returns-then-record-c : goal.returns-then-record-c
returns-then-record-c c =
    let s : SiblingMap = c.args.self.now in
    let h = here s c.args.u c.args.c c.in-Some.v c.loop-at.at c.loop-at.invariant c.in-Some.is in
    rw c.from.ensures (sym (child_some By32 (meaning_of s) c.args.u c.args.c c.in-Some.v (facts_of s) h.some
    (omega (arith, h.high, count_is s.records.now s.later)) h.parent
    (ap (λ (x : Edge). x.symbol) h.edge ∙ c.if-record-c.true)))

goes : (c : goal.Else-record-c) →
    Walk (edges_in c.args.self.now.records.now c.args.self.now.later) c.args.u c.args.c (at c.args.self.now.records.now c.in-Some.v).next
    × (top (at c.args.self.now.records.now c.in-Some.v).next < c.in-Some.v)
goes c =
    let s : SiblingMap = c.args.self.now in
    let es : List Edge = edges_in s.records.now s.later in
    let h = here s c.args.u c.args.c c.in-Some.v c.loop-at.at c.loop-at.invariant c.in-Some.is in
    subst (λ (r : NodeRecord). Walk es c.args.u c.args.c r.next × (top r.next < c.in-Some.v))
    (sym (laid_at s.top s.records.now s.later c.in-Some.v s.laid h.used h.high))
    (goes_on es c.args.u c.args.c c.in-Some.v (subst (Walk es c.args.u c.args.c) c.in-Some.is c.loop-at.invariant)
    (λ e. c.if-record-c.false (sym (ap (λ (x : Edge). x.symbol) h.edge) ∙ e)))

pub loop-at-smaller : goal.loop-at-smaller
loop-at-smaller c =
    let e : top c.loop-at.at ≡ c.in-Some.v = ap top c.in-Some.is in
    let less : top (at c.args.self.now.records.now c.in-Some.v).next < c.in-Some.v = (goes c).1 in
    omega arith

pub loop-at-preserved : goal.loop-at-preserved
loop-at-preserved c = (goes c).0

pub returns : goal.returns
returns c =
    let s : SiblingMap = c.args.self.now in
    let w : Walk (edges_in s.records.now s.later) c.args.u c.args.c None
    = subst (Walk (edges_in s.records.now s.later) c.args.u c.args.c) c.in_default.is c.loop-at.invariant in
    sym (child_none (edges_in s.records.now s.later) c.args.u c.args.c
    (λ v a b e f. w.passed v a (omega arith) e f))
