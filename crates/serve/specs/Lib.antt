pub mod Answered
pub mod Front
pub mod Gathers
pub mod Input
