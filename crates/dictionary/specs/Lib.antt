pub mod Shows
pub mod Looks
pub mod Growth
pub mod Spelling
pub mod Runs
