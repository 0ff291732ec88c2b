pub mod Places
pub mod Remaking
pub mod Survival
