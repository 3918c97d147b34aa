-- the lines of a text
use Rattle.std.specs.Prelude.{◌≡◌, ℕ, suc, false, cond, List, [], ◌∷◌, ◌==◌, Option, is_some}
use denote.Ref.{Bor}
use Rattle.std.specs.Iterator.{YieldsFirstRef}
use Rattle.commands.specs.declared.lines.Lines.{Lines}

-- where a byte first stands in a text; the length where it stands nowhere
unfoldable pub place_of : ℕ → List ℕ → ℕ
place_of byte [] = 0
place_of byte (b ∷ text) = cond (b == byte) 0 (suc (place_of byte text))

-- a byte in front of the first line
abbrev pub in_front : ℕ → List (List ℕ) → List (List ℕ)
in_front b [] = (b ∷ []) ∷ []
in_front b (line ∷ rest) = (b ∷ line) ∷ rest

-- a line ends with byte 10; the last may lack it
unfoldable pub lines : List ℕ → List (List ℕ)
lines [] = []
lines (b ∷ text) = cond (b == 10) ([] ∷ lines text) (in_front b (lines text))

-- the lines that are left of a text
abbrev pub left : Lines → List (List ℕ)
left l = lines l.text.now

-- a call gives the first of the lines that are left and leaves the others; once there is none, it leaves all as it is
pub record GivesLine (before : Lines) (line : Option (Bor (List ℕ))) (after : Lines) : Type 0 where
  pub first : YieldsFirstRef left before line after
  pub ended : is_some line ≡ false → after ≡ before
