pub mod Tables
pub mod Plans
pub mod Complete
pub mod Inserts
pub mod Walks
