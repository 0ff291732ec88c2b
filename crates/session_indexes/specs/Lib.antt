pub mod Made
pub mod Parts
pub mod Removed
pub mod Sites
pub mod Trees
