pub mod Counts
pub mod LongRows
