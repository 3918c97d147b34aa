-- numbers in a line
use Rattle.std.specs.Prelude.{ℕ, ◌+◌, ◌-◌, ◌*◌, Bool, cond, List, [], ◌∷◌, length, Some, None, Option, ◌==◌, nat_lt}
use Rattle.std.specs.Char.{is_ascii_digit}
use Rattle.std.specs.List.{list_all}

-- the digits are the bytes 48 to 57
abbrev pub all_digits : List ℕ → Bool
all_digits = list_all is_ascii_digit

-- the number that digits write behind those of n
abbrev pub decimal_from : ℕ → List ℕ → ℕ
decimal_from n [] = n
decimal_from n (d ∷ digits) = decimal_from (10 * n + (d - 48)) digits

abbrev pub decimal : List ℕ → ℕ
decimal digits = decimal_from 0 digits

-- a number has 1 to 10 digits, and is at most 4,294,967,295
unfoldable pub number : List ℕ → Option ℕ
number text =
    cond (length text == 0) None
    (cond (nat_lt 10 (length text)) None
    (cond (all_digits text) (cond (nat_lt 4294967295 (decimal text)) None (Some (decimal text))) None))
