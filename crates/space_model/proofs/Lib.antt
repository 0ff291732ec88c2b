pub mod More
pub mod NamedFiles
pub mod Queries
pub mod StillWanted
pub mod WantsMost
pub mod WorkedSpace
