pub mod Fetched
pub mod Opened
