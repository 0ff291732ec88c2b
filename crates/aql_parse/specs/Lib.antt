pub mod Kept
pub mod Machine
pub mod Moves
pub mod Built
pub mod ReadAs
pub mod Codes
pub mod Inserts
