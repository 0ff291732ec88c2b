pub mod Begun
pub mod CutMarks
pub mod Flags
pub mod Holding
pub mod Outcomes
pub mod TableFiles
pub mod Takes
pub mod Torn
