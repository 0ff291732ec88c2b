pub mod Padded
pub mod Zeros
