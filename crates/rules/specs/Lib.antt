pub mod Words
pub mod Steps
pub mod Tree
pub mod Book
pub mod Calls
pub mod Runs
pub mod Laws
pub mod Cases
