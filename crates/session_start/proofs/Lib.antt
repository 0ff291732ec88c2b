pub mod Costs
pub mod Opened
pub mod Placed
pub mod Slots
pub mod Sums
pub mod Whole
pub mod Written
