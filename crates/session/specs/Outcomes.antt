-- what is printed for lines on a dictionary, and what becomes of it
use Rattle.std.specs.Prelude.{◌≡◌, ℕ, List, Option}
use Rattle.rules.specs.Calls.{Book}
use Rattle.commands.specs.Commands.{Order, read_line}
use Rattle.dictionary.specs.Shows.{Extent}
use Rattle.session.specs.declared.output.Output.{Output}
use Rattle.session.specs.Output.{Wrote}
use Rattle.session.specs.Texts.{order_text, order_next, unfit_order, lines_text, lines_next, unfit_lines}

-- the text over a book and the book after it, and the text over parts that do not fit
pub record Outcome : Type 0 where
  pub text : Book ℕ → List ℕ
  pub next : Book ℕ → Book ℕ
  pub unfit : List ℕ

-- of what was read of a line, of a line, and of lines in their order
abbrev pub order_outcome : Option Order → Outcome
order_outcome order = record {
  text = λ b. order_text b order;
  next = λ b. order_next b order;
  unfit = unfit_order order;
}

abbrev pub line_outcome : List ℕ → Outcome
line_outcome line = order_outcome (read_line line)

abbrev pub lines_outcome : List (List ℕ) → Outcome
lines_outcome list = record {
  text = λ b. lines_text b list;
  next = λ b. lines_next b list;
  unfit = unfit_lines list;
}

-- for every book that a dictionary shows, the book's text was written and it shows the next book; its extent stays. Over
-- parts that do not fit, it stays as it is and their text was written. The bytes are those that were lent
pub record HasOutcome {D : Type 0} (Shown : D → Book ℕ → Type 0) (extent : D → Extent) (Unfit : D → Type 0) (out : Outcome) (d : D) (o : Output) (d' : D) (o' : Output) : Type 0 where
  pub wrote : (b : Book ℕ) → Shown d b → Wrote o (out.text b) o'
  pub next : (b : Book ℕ) → Shown d b → Shown d' (out.next b)
  pub same : o'.out.ghost_name ≡ o.out.ghost_name
  pub stays : extent d' ≡ extent d
  pub unfit : Unfit d → (d' ≡ d) × Wrote o out.unfit o'
