-- spelling a ticket back
use Rattle.std.specs.Prelude.{◌≡◌, ℕ, ◌≤◌, Bool, true, false, cond, not, List, length, ◌==◌, nat_lt}
use Rattle.rules.specs.declared.step.Step.TheVariants.{By32}
use Rattle.rules.specs.Steps.{step_symbol}
use Rattle.rules.specs.Tree.{edge_of, climb}
use Rattle.parts.specs.Maps.{Map}
use Rattle.parts.specs.Stores.{Store}
use Rattle.dictionary.specs.Shows.{tree_in}
use Rattle.dictionary.specs.Looks.{Holds}

-- whether a number is that of a node with a label that is no step node
abbrev pub of_row : Map → Store → ℕ → Bool
of_row m l v = cond (nat_lt v (length l.labels)) (cond (v == 0) true (not ((edge_of m.edges v).symbol == step_symbol By32))) false

-- map and store hold the tree of some tags, and the ticket is a row's
pub record Ticketed (m : Map) (l : Store) (ticket : ℕ) : Type 0 where
  pub tags : List (List ℕ)
  pub holds : Holds m l tags
  pub row : of_row m l ticket ≡ true
  pub short : length (climb By32 (tree_in m l) ticket) ≤ 201
