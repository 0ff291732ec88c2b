mod FilesThere
pub mod Insides
mod UnitWalks
mod ZeroPages
pub mod NotZero
pub mod Missed
mod Erasings
mod Guessed
mod Searched
mod Pairs
mod Results
pub mod SettledSizes
