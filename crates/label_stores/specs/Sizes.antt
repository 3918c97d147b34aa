-- which sizes of lent memory the stores take, and what a new store then is
use Rattle.std.specs.Prelude.{ℕ, ◌+◌, ◌-◌, ◌*◌, Bool, cond, ◌&&◌, Ok, Err, Result, nat_le}
use Rattle.tags.specs.declared.refusal.Refusal.{Refusal}
use Rattle.tags.specs.declared.refusal.Refusal.TheVariants.{StoreMemory}
use Rattle.parts.specs.Stores.{Store, new_store}

abbrev pub sizes_answer : Bool → Result (Unit {0}) Refusal
sizes_answer taken = cond taken (Ok tt) (Err StoreMemory)

-- made of memory that it does not take, a store has no places and byte room 0
abbrev pub new_where : Bool → (byte_room places : ℕ) → Store
new_where taken byte_room places = cond taken (new_store byte_room places) (new_store 0 0)

-- a plain store takes 1 to 1,048,576 bytes and 1 to 32,768 label starts
abbrev pub plain_takes : (bytes starts : ℕ) → Bool
plain_takes bytes starts = nat_le 1 bytes && nat_le bytes 1048576 && nat_le 1 starts && nat_le starts 32768

abbrev pub plain_sizes : (bytes starts : ℕ) → Result (Unit {0}) Refusal
plain_sizes bytes starts = sizes_answer (plain_takes bytes starts)

abbrev pub new_plain : (bytes starts : ℕ) → Store
new_plain bytes starts = new_where (plain_takes bytes starts) bytes starts

-- a grouped store takes 1 to 2,048 group starts, and more bytes than 16 for each, up to 1,081,344
abbrev pub grouped_takes : (bytes starts : ℕ) → Bool
grouped_takes bytes starts = nat_le 1 starts && nat_le starts 2048 && nat_le (16 * starts + 1) bytes && nat_le bytes 1081344

abbrev pub grouped_sizes : (bytes starts : ℕ) → Result (Unit {0}) Refusal
grouped_sizes bytes starts = sizes_answer (grouped_takes bytes starts)

abbrev pub new_grouped : (bytes starts : ℕ) → Store
new_grouped bytes starts = new_where (grouped_takes bytes starts) (bytes - 16 * starts) (16 * starts)

-- memory that is not taken gives no room
abbrev pub room_where : Bool → ℕ → ℕ
room_where taken room = cond taken room 0
