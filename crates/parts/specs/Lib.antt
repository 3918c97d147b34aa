pub mod Faults
pub mod Maps
pub mod Stores
pub mod Shelves
pub mod Sizes
