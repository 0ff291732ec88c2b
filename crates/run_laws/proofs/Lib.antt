pub mod Opening
pub mod Places
pub mod Planned
pub mod Remade
pub mod Survived
