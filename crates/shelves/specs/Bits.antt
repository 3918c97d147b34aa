-- what the lent bytes of a bit shelf mean: four places a byte, two bits each, most significant first
use Rattle.std.specs.Prelude.{ℕ, ◌+◌, ◌-◌, ◌*◌, ◌/◌, ◌%◌, ◌^◌, Bool, true, false, cond, List, map, length, replicate, Some, None, Option, ◌==◌, slice_index, slice_set}
use Rattle.std.specs.List.{range_with_len}
use Rattle.shelves.specs.Lent.{size_of, if_taken}

-- the most bytes
abbrev pub most_bytes : ℕ
most_bytes = 8192

-- the two bits of place k of a byte, as a number
abbrev pub pair_in : ℕ → ℕ → ℕ
pair_in byte k = byte / 4 ^ (3 - k) % 4

-- the higher bit says whether there is a value, and the lower one which
abbrev pub place_of : ℕ → Option Bool
place_of pair = cond (pair / 2 == 1) (Some (pair % 2 == 1)) None

-- the bits of a place; a blank one has the value bit 0 too
abbrev pub pair_of : Option Bool → ℕ
pair_of None = 0
pair_of (Some false) = 2
pair_of (Some true) = 3

-- a byte with the bits of place k replaced: those above stay, and those below
abbrev pub with_pair : ℕ → ℕ → ℕ → ℕ
with_pair byte k pair = byte / 4 ^ (4 - k) * 4 ^ (4 - k) + pair * 4 ^ (3 - k) + byte % 4 ^ (3 - k)

-- place n is in byte n div 4, at n mod 4
abbrev pub place_at : List ℕ → ℕ → Option Bool
place_at bytes n = place_of (pair_in (slice_index bytes (n / 4)) (n % 4))

abbrev pub with_place : List ℕ → ℕ → Option Bool → List ℕ
with_place bytes n place = slice_set bytes (n / 4) (with_pair (slice_index bytes (n / 4)) (n % 4) (pair_of place))

-- bytes of a refused size have no places
abbrev pub bit_places : List ℕ → List (Option Bool)
bit_places bytes = map (place_at bytes) (range_with_len 0 (4 * size_of most_bytes (length bytes)))

-- the lent bytes of a new shelf
abbrev pub bit_new : List ℕ → List ℕ
bit_new bytes = if_taken most_bytes bytes (replicate (length bytes) 0)

-- the lent bytes after a write to place n; `slice_set` beyond the last byte changes nothing
abbrev pub bit_set : List ℕ → ℕ → Option Bool → List ℕ
bit_set bytes n place = if_taken most_bytes bytes (with_place bytes n place)
