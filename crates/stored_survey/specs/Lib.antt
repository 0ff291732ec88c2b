pub mod Asked
pub mod Parts
pub mod Pieces
pub mod Shown
