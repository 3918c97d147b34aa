-- the commands of a bench list, a line each
use Rattle.std.specs.Prelude.{ℕ, cond, List, [], ◌∷◌, length, take, drop, Some, None, Option, ◌==◌, nat_lt}
use denote.Ref.{Bor}
use Rattle.std.specs.Option.{option_map}
use Rattle.commands.specs.declared.command.Command.{Command}
use Rattle.commands.specs.declared.command.Command.TheVariants.{Enter, Change, Find, Strike, Spell, Double}
use Rattle.commands.specs.Lines.{place_of}
use Rattle.commands.specs.Numbers.{number}

-- an amount and a tag
pub record Priced : Type 0 where
  pub amount : ℕ
  pub tag : List ℕ

-- what a line asks for
pub data Order : Type 0 where
  enter : Priced → Order
  change : Priced → Order
  find : (tag : List ℕ) → Order
  strike : (tag : List ℕ) → Order
  spell : (ticket : ℕ) → Order
  double : Order

-- the code's own types, over a line's bytes, as these
abbrev pub priced_of : ℕ × Bor (List ℕ) → Priced
priced_of p = record { amount = p.0; tag = p.1.now }

abbrev pub order_of : Command → Order
order_of (Enter amount tag) = enter (record { amount = amount; tag = tag.now })
order_of (Change amount tag) = change (record { amount = amount; tag = tag.now })
order_of (Find tag) = find tag.now
order_of (Strike tag) = strike tag.now
order_of (Spell ticket) = spell ticket
order_of Double = double

-- what follows one space
unfoldable pub after_space : List ℕ → Option (List ℕ)
after_space [] = None
after_space (b ∷ rest) = cond (b == 32) (Some rest) None

-- what follows one space, read further
abbrev pub spaced : {A : Type 0} → (List ℕ → Option A) → List ℕ → Option A
spaced reads matter = elim (after_space matter) [ None ↦ None | Some text ↦ reads text ]

-- an amount, one space, and a tag that runs to the end and may be empty
abbrev pub priced_with : Option ℕ → Option (List ℕ) → Option Priced
priced_with None rest = None
priced_with (Some amount) None = None
priced_with (Some amount) (Some tag) = Some (record { amount = amount; tag = tag })

unfoldable pub priced_tag : List ℕ → Option Priced
priced_tag text = priced_with (number (take (place_of 32 text) text)) (after_space (drop (place_of 32 text) text))

-- the command byte is a letter, E, C, F, S, P or D, and the rest of the line is its matter
unfoldable pub order_by : ℕ → List ℕ → Option Order
order_by letter matter =
    cond (letter == 69) (option_map enter (spaced priced_tag matter))
    (cond (letter == 67) (option_map change (spaced priced_tag matter))
    (cond (letter == 70) (option_map find (after_space matter))
    (cond (letter == 83) (option_map strike (after_space matter))
    (cond (letter == 80) (option_map spell (spaced number matter))
    (cond (letter == 68) (cond (length matter == 0) (Some double) None) None)))))

unfoldable pub order_in : List ℕ → Option Order
order_in [] = None
order_in (letter ∷ matter) = order_by letter matter

-- the order of a line; none where the line is not read
abbrev pub read_line : List ℕ → Option Order
read_line line = cond (nat_lt 255 (length line)) None (order_in line)
