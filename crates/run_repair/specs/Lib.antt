pub mod Checks
pub mod Findings
pub mod GivenUp
pub mod Mends
pub mod Outcomes
pub mod Repairs
pub mod Rooms
pub mod Surveys
