use Rattle.std.proofs.Common.{length, sym, refl, ap}
use Rattle.parts.specs.Sizes.{rooms_after, map_for}
use Rattle.compact_map.specs.Meaning.{capacity}
use Rattle.compact_map.proofs.Memories.{size_none, memory_kept}
use Rattle.compact_map.proofs.shape.CompactMap.unused.Goals as goal

pub returns : goal.returns
unfolding rooms_after
returns c = record {
  meaning = ap (map_for capacity) (sym (size_none (length c.args.bytes.now) c.requires));
  memory = memory_kept _ c.args.bytes.now c.requires;
  lender = refl;
}
