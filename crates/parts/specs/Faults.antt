-- the numbers of the label store's and the shelf's faults
use Rattle.std.specs.Prelude.{ℕ}
use Rattle.parts.specs.declared.store.StoreFault.{StoreFault}
use Rattle.parts.specs.declared.store.StoreFault.TheVariants.{StartBeyond, LabelTooLong, PlacesUsed, BytesUsed, NoLabel, NoByte}
use Rattle.parts.specs.declared.shelf.ShelfFault.{ShelfFault}
use Rattle.parts.specs.declared.shelf.ShelfFault.TheVariants.{NoPlace}

abbrev pub store_fault_number : StoreFault → ℕ
store_fault_number StartBeyond = 1
store_fault_number LabelTooLong = 2
store_fault_number PlacesUsed = 3
store_fault_number BytesUsed = 4
store_fault_number NoLabel = 5
store_fault_number NoByte = 6

abbrev pub shelf_fault_number : ShelfFault → ℕ
shelf_fault_number NoPlace = 1
