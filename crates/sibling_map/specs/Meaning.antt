-- what a sibling map means, and what the lent records hold after a call
use Rattle.std.specs.Prelude.{ℕ, ◌^◌, List, [], length, Some, None, Ok, Err, Option, Result}
use Rattle.tags.specs.declared.refusal.MapFault.{MapFault}
use Rattle.rules.specs.declared.step.Step.TheVariants.{By32}
use Rattle.rules.specs.Tree.{Edge}
use Rattle.parts.specs.Maps.{Map, add_answer, add_next}
use Rattle.parts.specs.Sizes.{power_for, rooms_to}
use Rattle.sibling_map.specs.declared.record.NodeRecord.{NodeRecord}
use Rattle.sibling_map.specs.declared.shape.SiblingMap.{SiblingMap}
use Rattle.sibling_map.specs.Records.{edges_in, laid_out}

-- every record is a place for a node
abbrev pub capacity : ℕ → ℕ
capacity records = records

abbrev pub meaning_of : SiblingMap → Map
meaning_of s = record {
  edges = edges_in s.records.now s.later;
  room = capacity (2 ^ s.log);
  coming = rooms_to capacity s.log s.top;
}

-- the k for which there are 2 ^ k records, from 16 to 32,768 of them
abbrev pub size_of : List NodeRecord → Option ℕ
size_of rs = power_for (length rs) 1

-- the records of a new map, by their number: node 0 has its record, and none changes where the number is refused
abbrev pub start_records : Option ℕ → List NodeRecord → List NodeRecord
start_records (Some top) rs = laid_out [] rs
start_records None rs = rs

-- the records after a call of add, by its answer: all nodes have theirs, and past them none changes; a fault changes none
abbrev pub records_for : Result ℕ MapFault → List Edge → List NodeRecord → List NodeRecord
records_for (Ok v) edges rs = laid_out edges rs
records_for (Err fault) edges rs = rs

abbrev pub add_records : SiblingMap → ℕ → ℕ → List NodeRecord
add_records s u c = records_for (add_answer By32 (meaning_of s) u c) (add_next By32 (meaning_of s) u c).edges s.records.now
