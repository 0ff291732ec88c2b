pub mod Ends
pub mod Fold
pub mod Folding
pub mod Limits
pub mod Order
pub mod Search
pub mod Summary
