use Rattle.std.proofs.Common.{◌≡◌, ◌||◌, drop}
use Rattle.tags.specs.Tags.{any_bad}
use Rattle.tags.proofs.tag.any_bad.Given as goal

abbrev pub invariant-loop-byte : goal.invariant-loop-byte
invariant-loop-byte l = (l.bad || any_bad (drop l.byte-index l.bytes)) ≡ any_bad l.bytes
