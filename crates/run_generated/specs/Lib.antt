pub mod Counted
pub mod Summed
