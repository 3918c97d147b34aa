pub mod Refusals
pub mod Tags
