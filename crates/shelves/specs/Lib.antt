pub mod Lent
pub mod Records
pub mod RecordLaws
pub mod Bits
pub mod Pairs
pub mod BitLaws
pub mod Tallies
