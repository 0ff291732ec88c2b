pub mod Column
pub mod CutRows
pub mod Drafts
pub mod Gathered
pub mod Lent
pub mod Tuples
