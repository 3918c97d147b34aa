use Rattle.std.proofs.Common.{◌≡◌, ◌^◌, ◌<◌, sym, arith}
use Rattle.parts.proofs.Answered.{up_zero, up_far, up_is}
use Rattle.sibling_map.specs.declared.shape.SiblingMap.{SiblingMap}
use Rattle.sibling_map.specs.Meaning.{meaning_of}
use Rattle.sibling_map.proofs.Facts.{count_is, in_use, inside}
use Rattle.sibling_map.proofs.Read.{edge_in_lem}
use Rattle.sibling_map.proofs.map.SiblingMapNodeMap.up.Goals as goal
use Rattle.sibling_map.proofs.map.SiblingMapNodeMap.up.Goals.{then-v-eq0-via-then-v-eq0, then-v-eq0-via-else-v-eq0+then-v-self}

pub returns-then-v-eq0 : goal.returns-then-v-eq0
returns-then-v-eq0 c =
    let s : SiblingMap = c.args.self.now in
    elim c.then-v-eq0.branch [
      | then-v-eq0-via-then-v-eq0 w ↦ sym (up_zero (meaning_of s) c.args.v w.if-v-eq0.true)
      | then-v-eq0-via-else-v-eq0+then-v-self w ↦
          sym (up_far (meaning_of s) c.args.v w.if-v-eq0.false (omega (arith, count_is s.records.now s.later, w.if-v-self.true)))
    ]

pub bounds-self-v : goal.bounds-self-v
bounds-self-v c =
    let s : SiblingMap = c.args.self.now in
    let some : c.args.v ≡ 0 → ⊥ = c.if-v-eq0.false in
    let room : c.args.v < 2 ^ s.log = omega (arith, s.fits) in
    inside s c.args.v (in_use s (omega arith)) room

pub returns : goal.returns
returns c =
    let s : SiblingMap = c.args.self.now in
    let some : c.args.v ≡ 0 → ⊥ = c.if-v-eq0.false in
    rw c.from.ensures (sym (up_is (meaning_of s) c.args.v _ some (omega (arith, count_is s.records.now s.later))
    (edge_in_lem s.records.now s.later c.args.v (omega arith) c.if-v-self.false)))
