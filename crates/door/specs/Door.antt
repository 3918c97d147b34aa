-- what a C caller gets
use Rattle.std.specs.Prelude.{ℕ, Bool, cond, ◌&&◌, List, ◌++◌, is_some, Option}
use Rattle.parts.specs.Maps.{Map}
use Rattle.parts.specs.Stores.{Store}
use Rattle.parts.specs.Shelves.{blanks}
use Rattle.parts.specs.Sizes.{power_for, map_for}
use Rattle.compact_map.specs.Meaning.{capacity}
use Rattle.label_stores.specs.Sizes.{new_plain}
use Rattle.commands.specs.Lines.{lines}
use Rattle.dictionary.specs.Shows.{fits, fresh_book}
use Rattle.session.specs.Texts.{printed, unfit_lines, totals_text}

-- the parts in memory of these sizes: bytes for the map and the labels, and label starts. There are 1,024 amounts
abbrev pub map_in : ℕ → Map
map_in bytes = map_for capacity (power_for bytes 14)

abbrev pub store_in : (labels starts : ℕ) → Store
store_in labels starts = new_plain labels starts

abbrev pub amounts : List (Option ℕ)
amounts = blanks 1024

-- the map takes its memory, and the parts fit
abbrev pub serves : (map labels starts : ℕ) → Bool
serves map labels starts = is_some (power_for map 14) && fits (map_in map) (store_in labels starts) amounts

-- what is printed: the arrival book's text, or else every line that is read is refused with 13
abbrev pub door_text : (map labels starts : ℕ) → List ℕ → List ℕ
door_text map labels starts text =
    cond (serves map labels starts) (printed (fresh_book (map_in map) (store_in labels starts)) (lines text)) (unfit_lines (lines text) ++ totals_text 1 0)
