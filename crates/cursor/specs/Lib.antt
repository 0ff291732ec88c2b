pub mod Remaining
pub mod Pairs
pub mod Marks
pub mod Blocks
