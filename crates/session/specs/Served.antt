-- a bench list on a dictionary that is opened for it
use Rattle.std.specs.Prelude.{◌≡◌, ℕ, cond, List, ◌∷◌, ◌++◌, Some, Ok, Err, Option}
use Rattle.tags.specs.declared.refusal.Refusal.TheVariants.{UnfitParts}
use Rattle.rules.specs.declared.answers.Found.{Found}
use Rattle.rules.specs.Calls.{Book, find as find_in}
use Rattle.rules.specs.Laws.{TrueFind}
use Rattle.parts.specs.Maps.{Map}
use Rattle.parts.specs.Stores.{Store}
use Rattle.commands.specs.Commands.{find, read_line}
use Rattle.commands.specs.Lines.{lines}
use Rattle.dictionary.specs.Shows.{Shows, extent_of, fits, open_answer, fresh_book}
use Rattle.session.specs.Output.{Printed}
use Rattle.session.specs.Texts.{lines_next, printed, printed_unfit}

-- a find that is not refused is true: its moves are those of looking in the tree that stands at its turn
abbrev pub FindsAreTrue : Book ℕ → List (List ℕ) → Type 0
FindsAreTrue b list = (before after : List (List ℕ)) (line tag : List ℕ) (found : Found ℕ) → list ≡ before ++ (line ∷ after) → read_line line ≡ Some (find tag)
    → find_in (lines_next b before) tag ≡ Ok found → TrueFind (lines_next b before) tag found

-- over parts of any state. Where they fit, all that is printed is what the arrival book says, and they show the book at the
-- end; where they do not, every line that is read is refused with 13, and they are as given
pub record ServedList (m : Map) (l : Store) (s : List (Option ℕ)) (text out out' : List ℕ) (count : ℕ) (m' : Map) (l' : Store) (s' : List (Option ℕ)) (AsGiven : Type 0) : Type 0 where
  pub served : open_answer m l s ≡ Ok tt → Printed (printed (fresh_book m l) (lines text)) out out' count × Shows m' l' s' (lines_next (fresh_book m l) (lines text))
  pub finds : FindsAreTrue (fresh_book m l) (lines text)
  pub refused : open_answer m l s ≡ Err UnfitParts → Printed (printed_unfit m l (lines text)) out out' count × AsGiven
  pub stays : extent_of l' s' ≡ extent_of l s

-- all that is printed for a text, over parts of any state
abbrev pub printed_over : Map → Store → List (Option ℕ) → List ℕ → List ℕ
printed_over m l s text = cond (fits m l s) (printed (fresh_book m l) (lines text)) (printed_unfit m l (lines text))
