pub mod Beginnings
pub mod Fronts
pub mod Parts
pub mod Places
pub mod Talks
