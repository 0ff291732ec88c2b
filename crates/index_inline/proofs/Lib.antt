pub mod Digits
pub mod Falls
pub mod Pieces
