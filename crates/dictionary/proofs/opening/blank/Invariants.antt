use Rattle.std.proofs.Common.{◌≡◌, ℕ, ◌<◌, length, get_or, None}
use Rattle.dictionary.proofs.opening.blank.Given as goal

abbrev pub invariant-loop-n : goal.invariant-loop-n
invariant-loop-n g l =
    (length (g.S.Shelf.meaning l.shelf) ≡ length (g.S.Shelf.meaning l.initial.shelf))
    × ((j : ℕ) → j < l.n → get_or (g.S.Shelf.meaning l.shelf) j None ≡ None)
