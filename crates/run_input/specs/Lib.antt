pub mod Sent
pub mod Through
