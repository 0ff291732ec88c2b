pub mod Line
pub mod Moments
pub mod Runs
pub mod Scripts
pub mod Talk
