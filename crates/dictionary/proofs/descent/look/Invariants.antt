use Rattle.std.proofs.Common.{◌+◌, ◌≤◌, length}
use Rattle.dictionary.proofs.Standing.{Left, met_of, Stands}
use Rattle.dictionary.proofs.descent.look.Given as goal

abbrev pub invariant-loop-byte : goal.invariant-loop-byte
invariant-loop-byte g l = record {
  left : Left l.s l.rest;
  counted : l.moves + length l.rest ≤ length l.s;
  short : length l.s ≤ 201;
  stands : Stands (g.M.NodeMap.meaning l.map) (g.L.LabelStore.meaning l.store) l.s l.node (met_of l.s l.rest) l.moves;
}

abbrev pub decreases-loop-byte : goal.decreases-loop-byte
decreases-loop-byte g l = length l.rest
