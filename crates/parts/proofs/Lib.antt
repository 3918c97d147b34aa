pub mod Powers
pub mod Children
pub mod Answered
