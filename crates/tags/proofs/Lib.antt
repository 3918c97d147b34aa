mod Bytes
mod Closing
pub mod Forms
