-- how much of its room a store has used, before and after a label
use Rattle.std.specs.Prelude.{◌≡◌, ℕ, ◌+◌, ◌<◌, ◌≤◌, List, length}
use Rattle.parts.specs.Stores.{longest}
use Rattle.label_stores.specs.declared.fill.Fill.{Fill}

-- no labels yet, and these rooms
abbrev pub IsNew : Fill → (room places : ℕ) → Type 0
IsNew fill room places = (fill.count ≡ 0) × (fill.total ≡ 0) × (fill.room ≡ room) × (fill.places ≡ places)

-- there is room for a label
abbrev pub FitsLabel : Fill → List ℕ → Type 0
FitsLabel fill label = (fill.count < fill.places) × (fill.total + length label ≤ fill.room) × (length label ≤ longest)

-- one label more, and the rooms as they were
abbrev pub FilledBy : List ℕ → (before after : Fill) → Type 0
FilledBy label before after = (after.count ≡ before.count + 1) × (after.total ≡ before.total + length label) × (after.places ≡ before.places) × (after.room ≡ before.room)
