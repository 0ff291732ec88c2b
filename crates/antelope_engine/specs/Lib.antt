pub mod Commands
pub mod Executed
pub mod Reading
pub mod Seen
pub mod Started
pub mod Writes
