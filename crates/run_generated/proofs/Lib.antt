pub mod Counts
pub mod FewRows
pub mod Lines
pub mod Summing
