pub mod Laid
mod Saying
mod Listing
mod Totals
mod Truth
