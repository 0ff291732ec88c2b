pub mod Changes
pub mod CutRows
pub mod Wanted
pub mod Refused
pub mod Marking
pub mod Removals
pub mod Ready
