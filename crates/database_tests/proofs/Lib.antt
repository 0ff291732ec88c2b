pub mod Kept
pub mod Little
pub mod Standing
