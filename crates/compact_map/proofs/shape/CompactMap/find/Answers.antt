use Rattle.std.proofs.Common.{◌≡◌, ℕ, ◌<◌, ◌≤◌, Some, None, Option, IsSomeAnd, MatchOption, rules, sym, ◌∙◌, arith}
use Rattle.compact_map.specs.declared.shape.CompactMap.{CompactMap}
use Rattle.compact_map.specs.Meaning.{keys_of}
use Rattle.compact_map.proofs.Edges.{child_absent}
use Rattle.compact_map.proofs.Meant.{count_is, table_of, child_is}
use Rattle.compact_map.proofs.shape.CompactMap.find.Goals as goal

pub returns-then-self-eq0 : goal.returns-then-self-eq0
returns-then-self-eq0 c =
    let s : CompactMap = c.args.self.now in
    sym (child_absent (keys_of s) s.later c.args.u c.args.c c.requires.1 (λ v a b e. omega arith))

pub overflow_mul-u : goal.overflow_mul-u
overflow_mul-u c = omega (arith, count_is c.args.self.now)

pub overflow_add-u : goal.overflow_add-u
overflow_add-u c = omega (arith, count_is c.args.self.now)

pub find-requires : goal.find-requires
find-requires c =
    let s : CompactMap = c.args.self.now in
    let used : 2 < s.set.large = omega arith in
    rw (c.view.ensures.bytes, c.view.ensures.set) (table_of s used).full

mapped : (r q : Option ℕ) → MatchOption r (q ≡ None) (λ x. IsSomeAnd q (λ y. y ≡ x)) → q ≡ r
mapped None q e = e
mapped (Some x) None e = search rules
mapped (Some x) (Some y) e = search rules

pub returns : goal.returns
returns c =
    let s : CompactMap = c.args.self.now in
    let used : 2 < s.set.large = omega arith in
    let low : c.args.u ≤ s.later = omega (arith, count_is s) in
    let f = rw (c.view.ensures.bytes, c.view.ensures.set, c.from.ensures) at c.find.ensures in
    mapped c.find.result c.map.result c.map.ensures.cases ∙ child_is s used c.args.u c.args.c low c.requires.1 c.find.result f
