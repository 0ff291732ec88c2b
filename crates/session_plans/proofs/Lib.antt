pub mod Aggregated
pub mod Joined
pub mod Places
pub mod Planned
pub mod IndexKinds
