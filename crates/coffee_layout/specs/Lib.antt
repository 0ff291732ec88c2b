pub mod FileBytes
pub mod Files
pub mod Marks
pub mod Rules
pub mod Tiling
pub mod Units
pub mod Walks
