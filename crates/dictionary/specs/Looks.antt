-- where looking ends, in the words of the code and of the tree
use Rattle.std.specs.Prelude.{◌≡◌, ℕ, ◌<◌, ◌≤◌, List, length, None, Ok, Err, Result}
use Rattle.tags.specs.Tags.{WellFormed, spelled}
use Rattle.rules.specs.declared.step.Step.TheVariants.{By32}
use Rattle.rules.specs.Steps.{symbol_count, step_symbol}
use Rattle.rules.specs.Tree.{Edge, node_count, child, Down, Look, there, lacks, look_for, tree_of}
use Rattle.rules.specs.Laws.{AllWellFormed}
use Rattle.parts.specs.Maps.{Map}
use Rattle.parts.specs.Stores.{Store}
use Rattle.dictionary.specs.declared.descent.Reached.{Reached}
use Rattle.dictionary.specs.declared.descent.Gap.{Gap}
use Rattle.dictionary.specs.declared.descent.Place.{Place}
use Rattle.dictionary.specs.Shows.{tree_in}

abbrev pub reached : Reached → Down
reached r = record { node = r.node; missing = r.missing }

abbrev pub look_end : Result ℕ Gap → ℕ → Look
look_end (Ok node) moves = there node moves
look_end (Err gap) moves = lacks gap.node gap.missing gap.symbol gap.label.now moves

abbrev pub placed : Place → Look
placed r = look_end r.end r.moves

-- how large the parts of a gap in s are at most
abbrev pub BoundedGap : List ℕ → Result ℕ Gap → Type 0
BoundedGap s (Ok node) = Unit {0}
BoundedGap s (Err gap) = (gap.missing ≤ 6) × (gap.symbol < symbol_count By32) × (length gap.label.now ≤ length s)

-- what holds of every answer
abbrev pub Bounded : List ℕ → Place → Type 0
Bounded s r = (r.moves ≤ length s) × BoundedGap s r.end

-- map and store hold the tree of these tags
pub record Holds (m : Map) (l : Store) (tags : List (List ℕ)) : Type 0 where
  pub forms : AllWellFormed tags
  pub tree : tree_in m l ≡ tree_of By32 tags

-- map and store hold the tree of some tags, at least one, and s is the spelled form of a tag
pub record Asked (m : Map) (l : Store) (s : List ℕ) : Type 0 where
  pub tags : List (List ℕ)
  pub tag : List ℕ
  pub holds : Holds m l tags
  pub some : 0 < length l.labels
  pub form : WellFormed tag
  pub is : s ≡ spelled tag

-- the answer is that of looking in the tree
abbrev pub Looked : Map → Store → List ℕ → Place → Type 0
Looked m l s r = (a : Asked m l s) → placed r ≡ look_for By32 (tree_in m l) a.tag

-- below node u, k steps and then the child by c are to be made: the first of them is missing
pub record Open (edges : List Edge) (u k c : ℕ) : Type 0 where
  pub inside : u < node_count edges
  pub step : 0 < k → child edges u (step_symbol By32) ≡ None
  pub last : k ≡ 0 → child edges u c ≡ None

abbrev pub OpenGap : List Edge → Result ℕ Gap → Type 0
OpenGap edges (Ok node) = Unit {0}
OpenGap edges (Err gap) = Open edges gap.node gap.missing gap.symbol

abbrev pub Opened : List Edge → Place → Type 0
Opened edges r = OpenGap edges r.end
