pub mod Handing
pub mod Kept
