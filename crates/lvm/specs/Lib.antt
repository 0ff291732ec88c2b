pub mod Code
pub mod Evaluate
pub mod Instruction
pub mod Kind
pub mod Lent
pub mod Side
pub mod Stack
pub mod Within
