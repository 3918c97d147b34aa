use Rattle.std.proofs.Common.{◌*◌, ◌^◌, ◌<◌, sym, arith}
use Rattle.parts.proofs.Answered.{up_zero, up_far, up_is}
use Rattle.compact_map.specs.Table.{place_at}
use Rattle.compact_map.specs.declared.shape.CompactMap.{CompactMap}
use Rattle.compact_map.specs.Meaning.{bytes_of, keys_of, meaning_of}
use Rattle.compact_map.proofs.Edges.{edge_at}
use Rattle.compact_map.proofs.Meant.{count_is, table_of}
use Rattle.compact_map.proofs.map.CompactMapNodeMap.up.Goals as goal
use Rattle.compact_map.proofs.map.CompactMapNodeMap.up.Goals.{then-v-eq0-via-then-v-eq0, then-v-eq0-via-else-v-eq0+then-v-self}

pub returns-then-v-eq0 : goal.returns-then-v-eq0
returns-then-v-eq0 c =
    let s : CompactMap = c.args.self.now in
    elim c.then-v-eq0.branch [
      | then-v-eq0-via-then-v-eq0 w ↦ sym (up_zero (meaning_of s) c.args.v w.if-v-eq0.true)
      | then-v-eq0-via-else-v-eq0+then-v-self w ↦ sym (up_far (meaning_of s) c.args.v w.if-v-eq0.false (omega (arith, count_is s, w.if-v-self.true)))
    ]

pub key_of-key-requires : goal.key_of-key-requires
key_of-key-requires c =
    let s : CompactMap = c.args.self.now in
    let used : 2 < s.set.large = omega arith in
    let i : place_at (bytes_of s) (12 * s.set.large) c.args.v < 2 ^ s.set.log = (table_of s used).inside c.args.v (omega arith) (omega arith) in
    let t = (table_of s used).taken c.args.v (omega arith) (omega arith) in
    rw (c.view.ensures.bytes, c.view.ensures.set)
    (record { node = omega arith; place = i; taken = t; near = (table_of s used).full.short (place_at (bytes_of s) (12 * s.set.large) c.args.v) i t })

pub returns : goal.returns
returns c =
    let s : CompactMap = c.args.self.now in
    rw (c.key_of-key.ensures, c.view.ensures.bytes, c.view.ensures.set)
    (sym (up_is (meaning_of s) c.args.v _ c.if-v-eq0.false (omega (arith, count_is s)) (edge_at (keys_of s) s.later c.args.v (omega arith) (omega arith))))
