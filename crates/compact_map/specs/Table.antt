-- a table of slots as it is searched. S i is what slot i holds, and A v is the slot of node v
use Rattle.std.specs.Prelude.{◌≡◌, ℕ, ◌+◌, ◌-◌, ◌*◌, ◌/◌, ◌%◌, ◌^◌, ◌<◌, ◌≤◌, List, Some, None, Option, slice_index}
use Rattle.rules.specs.declared.step.Step.{Step}
use Rattle.rules.specs.Steps.{symbol_count}
use Rattle.compact_map.specs.Bytes.{byte_of, number_at}
use Rattle.compact_map.specs.Hash.{symbol_bits, unhash}
use Rattle.compact_map.specs.Slots.{quotient_in, displacement_in, number_in}
use Rattle.compact_map.specs.Layout.{onward, slot_for, word_for}
use Rattle.compact_map.specs.Memory.{set_start, laid_byte}

-- slot i of those from `start` on
abbrev pub slot_at : List ℕ → ℕ → ℕ → ℕ
slot_at bs start i = number_at bs (start + 6 * i) 6

-- the slot of node v, of those kept from `places` on
abbrev pub place_at : List ℕ → ℕ → ℕ → ℕ
place_at bs places v = number_at bs (places + 2 * v) 2

abbrev pub Taken : ℕ → Type 0
Taken w = 2 ^ 47 ≤ w

-- the home of what lies in slot i with displacement d
abbrev pub homeward : ℕ → ℕ → ℕ → ℕ
homeward m i d = (i + m - d) % m

-- slot i holds what has this home and quotient
pub record Holds (m : ℕ) (S : ℕ → ℕ) (home q i : ℕ) : Type 0 where
  pub inside : i < m
  pub taken : Taken (S i)
  pub home_is : homeward m i (displacement_in (S i)) ≡ home
  pub quotient_is : quotient_in (S i) ≡ q

-- each way from a home to what has it is full
pub record Full (m : ℕ) (S : ℕ → ℕ) : Type 0 where
  pub short : (i : ℕ) → i < m → Taken (S i) → displacement_in (S i) < m
  pub way : (i : ℕ) → i < m → Taken (S i) → (j : ℕ) → j < displacement_in (S i) → Taken (S (onward m (homeward m i (displacement_in (S i))) j))

-- what a search for a home and a quotient answers: the number in the slot that holds them
abbrev pub Finds : ℕ → (ℕ → ℕ) → ℕ → ℕ → Option ℕ → Type 0
Finds m S home q (Some n) = (i : ℕ) × (Holds m S home q i × (n ≡ number_in (S i)))
Finds m S home q None = (i : ℕ) → Holds m S home q i → ⊥

-- some slot is empty, as a search from home on finds
abbrev pub Vacant : ℕ → (ℕ → ℕ) → ℕ → Type 0
Vacant m S home = ((j : ℕ) → j < m → Taken (S (onward m home j))) → ⊥

-- slot (home + d) mod m is the first empty one from home on
pub record First (m : ℕ) (S : ℕ → ℕ) (home d : ℕ) : Type 0 where
  pub near : d < m
  pub way : (j : ℕ) → j < d → Taken (S (onward m home j))
  pub empty : Taken (S (onward m home d)) → ⊥

-- what a search for an empty slot from home on answers: how far on the first one is
abbrev pub FindsEmpty : ℕ → (ℕ → ℕ) → ℕ → Option ℕ → Type 0
FindsEmpty m S home (Some d) = First m S home d
FindsEmpty m S home None = (j : ℕ) → j < m → Taken (S (onward m home j))

-- the hash of what lies in slot i, from its quotient and its home
abbrev pub hash_at : ℕ → (ℕ → ℕ) → ℕ → ℕ
hash_at l S i = quotient_in (S i) * 2 ^ l + homeward (2 ^ l) i (displacement_in (S i))

-- the key of what lies in slot i
abbrev pub key_at : Step → ℕ → (ℕ → ℕ) → ℕ → ℕ
key_at step l S i = unhash (symbol_bits step + l) (hash_at l S i)

-- the keys as they are read from slots and places
abbrev pub read_key : Step → ℕ → (ℕ → ℕ) → (ℕ → ℕ) → ℕ → ℕ
read_key step l S A v = key_at step l S (A v)

-- what the keys of nodes are: no two alike, and the parent has a smaller number
pub record Keys (step : Step) (K : ℕ → ℕ) (n : ℕ) : Type 0 where
  pub apart : (u v : ℕ) → 0 < u → 0 < v → u ≤ n → v ≤ n → K u ≡ K v → u ≡ v
  pub down : (v : ℕ) → 0 < v → v ≤ n → K v / symbol_count step < v

-- every byte of `new` is as laying out the nodes 1 to n in `old` leaves it
abbrev pub Filled : Step → ℕ → ℕ → (ℕ → ℕ) → ℕ → List ℕ → List ℕ → Type 0
Filled step l large K n old new = (k : ℕ) → slice_index new k ≡ laid_byte step l large K n (slice_index old k) k

-- the key of node v, as it is read from the bytes
abbrev pub key_in : Step → List ℕ → ℕ → ℕ → ℕ → ℕ
key_in step bs l large v = read_key step l (slot_at bs (set_start l large)) (place_at bs (12 * large)) v

-- node v is set, with this key, into the first empty slot from its home on, and all other bytes are as they were
pub record Placed (step : Step) (l large v key : ℕ) (old new : List ℕ) : Type 0 where
  pub slot : (j : ℕ) → j < 6
      → slice_index new (set_start l large + 6 * slot_for step l (slot_at old (set_start l large)) key + j) ≡ byte_of 6 (word_for step l (slot_at old (set_start l large)) v key) j
  pub place : (j : ℕ) → j < 2 → slice_index new (12 * large + 2 * v + j) ≡ byte_of 2 (slot_for step l (slot_at old (set_start l large)) key) j
  pub others : (k : ℕ)
      → (set_start l large + 6 * slot_for step l (slot_at old (set_start l large)) key ≤ k → set_start l large + 6 * slot_for step l (slot_at old (set_start l large)) key + 6 ≤ k)
      → (12 * large + 2 * v ≤ k → 12 * large + 2 * v + 2 ≤ k) → slice_index new k ≡ slice_index old k

-- the bytes are the layout of the nodes 1 to n, whose keys they show
pub record Stored (step : Step) (l large n : ℕ) (bs : List ℕ) : Type 0 where
  pub keys : Keys step (key_in step bs l large) n
  pub filled : Filled step l large (key_in step bs l large) n bs bs
