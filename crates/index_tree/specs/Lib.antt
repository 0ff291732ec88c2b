pub mod Pairs
pub mod TreeFile
pub mod Trees
pub mod Places
pub mod Ends
pub mod Buckets
pub mod Loads
pub mod Rules
