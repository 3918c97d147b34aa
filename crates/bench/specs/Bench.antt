-- what the program prints
use Rattle.std.specs.Prelude.{ℕ, List, [], ◌∷◌}
use Rattle.rules.specs.declared.step.Step.TheVariants.{By32}
use Rattle.rules.specs.Calls.{Book}
use Rattle.commands.specs.Lines.{lines}
use Rattle.session.specs.Texts.{printed}

-- the book of the program's dictionary, just opened: nine tenths of 16, 32, … 1,024 slots are the rooms
abbrev pub bench_book : Book ℕ
bench_book = record { step = By32; rows = []; room = 14; coming = 28 ∷ 57 ∷ 115 ∷ 230 ∷ 460 ∷ 921 ∷ []; byte_room = 16384 }

abbrev pub bench_text : List ℕ → List ℕ
bench_text text = printed bench_book (lines text)
