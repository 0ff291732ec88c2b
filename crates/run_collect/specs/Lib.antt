pub mod Collects
pub mod Comes
