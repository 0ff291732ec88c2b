pub mod Rooms
pub mod Walks
pub mod Builds
pub mod Verify
pub mod Searches
