pub mod Enough
pub mod FileNames
pub mod Wants
