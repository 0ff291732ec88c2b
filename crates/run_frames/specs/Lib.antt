pub mod Fetching
pub mod Frames
pub mod Served
