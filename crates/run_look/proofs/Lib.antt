pub mod Counts
pub mod Lists
pub mod LiveRows
pub mod Once
pub mod Places
pub mod Texts
pub mod Whole
