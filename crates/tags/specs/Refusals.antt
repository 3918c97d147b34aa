-- the numbers of the refusals, and of the node map's faults
use Rattle.std.specs.Prelude.{ℕ}
use Rattle.tags.specs.declared.refusal.MapFault.{MapFault}
use Rattle.tags.specs.declared.refusal.MapFault.TheVariants.{NoNode, SymbolTooLarge, PairTaken, RoomFull, LastRoom}
use Rattle.tags.specs.declared.refusal.Refusal.{Refusal}
use Rattle.tags.specs.declared.refusal.Refusal.TheVariants.{EmptyTag, LongTag, BadByte, RowHolds, NoLiveRow, NoNodeRoom, NoByteRoom, NoSuchTicket, ShortBuffer, NoNextRoom, MapMemory, StoreMemory, UnfitParts, UnbalancedTally}

abbrev pub map_fault_number : MapFault → ℕ
map_fault_number NoNode = 1
map_fault_number SymbolTooLarge = 2
map_fault_number PairTaken = 3
map_fault_number RoomFull = 4
map_fault_number LastRoom = 5

abbrev pub refusal_number : Refusal → ℕ
refusal_number EmptyTag = 1
refusal_number LongTag = 2
refusal_number BadByte = 3
refusal_number RowHolds = 4
refusal_number NoLiveRow = 5
refusal_number NoNodeRoom = 6
refusal_number NoByteRoom = 7
refusal_number NoSuchTicket = 8
refusal_number ShortBuffer = 9
refusal_number (NoNextRoom fault) = 10
refusal_number MapMemory = 11
refusal_number StoreMemory = 12
refusal_number UnfitParts = 13
refusal_number UnbalancedTally = 14
