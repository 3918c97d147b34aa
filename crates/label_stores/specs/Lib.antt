pub mod Answers
pub mod Sizes
pub mod Spans
pub mod Leads
pub mod Fills
pub mod Sound
pub mod Laws
pub mod Meaning
