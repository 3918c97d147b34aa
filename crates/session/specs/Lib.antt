pub mod Output
pub mod Texts
pub mod Outcomes
pub mod Served
