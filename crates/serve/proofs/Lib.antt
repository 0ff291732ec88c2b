pub mod Ending
pub mod Halting
pub mod Holding
pub mod Opening
pub mod Replied
pub mod Seen
pub mod Unsent
