pub mod Bytes
pub mod Hash
pub mod Slots
pub mod Reads
pub mod Layout
pub mod Memory
pub mod Table
pub mod Meaning
