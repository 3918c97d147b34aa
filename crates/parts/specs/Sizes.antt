-- the sizes of the memory that node maps are lent, and their rooms: both go by powers of two
use Rattle.std.specs.Prelude.{◌≡◌, ℕ, zero, suc, ◌-◌, ◌*◌, ◌^◌, ◌≤◌, cond, List, [], ◌∷◌, Some, None, Ok, Err, Option, Result, ◌==◌, ◌≢◌}
use Rattle.tags.specs.declared.refusal.Refusal.{Refusal}
use Rattle.tags.specs.declared.refusal.Refusal.TheVariants.{MapMemory}
use Rattle.parts.specs.Maps.{Map, new_map}

-- the first of so many numbers k, k + 1, … for which n is part * 2 ^ k
unfoldable pub power_from : ℕ → ℕ → ℕ → ℕ → Option ℕ
power_from zero k n part = None
power_from (suc tries) k n part = cond (n == part * 2 ^ k) (Some k) (power_from tries (suc k) n part)

-- the k from 4 to 15 for which n is part * 2 ^ k, or none
abbrev pub power_for : ℕ → ℕ → Option ℕ
power_for n part = power_from 12 4 n part

-- the same as a relation
abbrev pub PowerOf : ℕ → ℕ → Option ℕ → Type 0
PowerOf n part (Some k) = (n ≡ part * 2 ^ k) × (4 ≤ k) × (k ≤ 15)
PowerOf n part None = (k : ℕ) → 4 ≤ k → k ≤ 15 → n ≢ part * 2 ^ k

-- a map can be made where its memory has such a size
abbrev pub size_answer : Option ℕ → Result (Unit {0}) Refusal
size_answer (Some k) = Ok tt
size_answer None = Err MapMemory

-- so many rooms after that of 2 ^ k slots, where `capacity` tells the room of so many slots
unfoldable pub rooms_after : (ℕ → ℕ) → ℕ → ℕ → List ℕ
rooms_after capacity k zero = []
rooms_after capacity k (suc more) = capacity (2 ^ suc k) ∷ rooms_after capacity (suc k) more

-- the rooms of 2 ^ (k + 1), …, 2 ^ top slots
abbrev pub rooms_to : (ℕ → ℕ) → ℕ → ℕ → List ℕ
rooms_to capacity k top = rooms_after capacity k (top - k)

-- a new map in memory for 2 ^ top slots begins with 16 of them. One that is made despite its memory's size has the one room 1
abbrev pub map_for : (ℕ → ℕ) → Option ℕ → Map
map_for capacity (Some top) = new_map (capacity 16) (rooms_to capacity 4 top)
map_for capacity None = new_map 1 []
