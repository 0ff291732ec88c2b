pub mod Gathers
pub mod Input
