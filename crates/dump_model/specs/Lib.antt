pub mod Packed
pub mod Script
pub mod Made
