use Rattle.std.proofs.Common.{◌≡◌, ◌≤◌, ◌++◌, length, drop, replicate, Err}
use Rattle.tags.specs.declared.refusal.Refusal.TheVariants.{UnfitParts}
use Rattle.rules.specs.Calls.{Book}
use Rattle.dictionary.specs.Runs.{made}
use Rattle.dictionary.proofs.Running.{SoFar}
use Rattle.dictionary.proofs.runs.run.Given as goal

abbrev pub invariant-loop-i : goal.invariant-loop-i
invariant-loop-i g l =
    (l.from ≤ length l.memory)
    × ((b : Book g.row.D-Value.Denot) → g.D.DictionaryCalls.shows l.initial.d b
    → SoFar b (made l.calls l.initial.answers) l.initial.answers l.initial.memory l.i l.from l.answers l.memory (g.D.DictionaryCalls.shows l.d))
    × (g.D.DictionaryCalls.extent l.d ≡ g.D.DictionaryCalls.extent l.initial.d)
    × (g.D.DictionaryCalls.unfit l.initial.d
    → (l.d ≡ l.initial.d) × (l.answers ≡ replicate l.i (Err UnfitParts) ++ drop l.i l.initial.answers) × (l.memory ≡ l.initial.memory))
