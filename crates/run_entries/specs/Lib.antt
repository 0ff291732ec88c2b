pub mod Carried
pub mod Taking
pub mod Went
