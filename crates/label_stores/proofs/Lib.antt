pub mod Agreement
pub mod Leads
pub mod Reading
pub mod Spans
