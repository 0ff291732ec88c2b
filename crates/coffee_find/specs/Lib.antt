pub mod Found
pub mod Guesses
pub mod Search
