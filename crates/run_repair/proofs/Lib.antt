pub mod GivenUp
pub mod Interrupted
pub mod LostTrees
pub mod Mended
pub mod Rooms
pub mod Settled
pub mod SettledTo
pub mod Told
