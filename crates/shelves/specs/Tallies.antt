-- the plain numbers of which a tally is made
use Rattle.std.specs.Prelude.{◌+◌, Bool, cond, Ok, Err, Result, ◌==◌}
use Rattle.tags.specs.declared.refusal.Refusal.{Refusal}
use Rattle.tags.specs.declared.refusal.Refusal.TheVariants.{UnbalancedTally}
use Rattle.shelves.specs.declared.counts.Counts.{Counts}

abbrev pub balanced : Counts → Bool
balanced counts = counts.inserted == counts.accepted + counts.rejected

-- what a check of plain numbers answers
abbrev pub balance_answer : Counts → Result (Unit {0}) Refusal
balance_answer counts = cond (balanced counts) (Ok tt) (Err UnbalancedTally)

-- the numbers of the tally that is made of plain numbers
abbrev pub tally_answer : Counts → Result Counts Refusal
tally_answer counts = cond (balanced counts) (Ok counts) (Err UnbalancedTally)
