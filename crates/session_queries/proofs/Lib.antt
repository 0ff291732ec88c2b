pub mod Costs
pub mod FoldSteps
pub mod Left
pub mod Lines
pub mod Paired
pub mod Passes
pub mod Seen
pub mod Suited
