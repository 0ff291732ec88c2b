pub mod FurtherRows
pub mod Growth
pub mod Lines
pub mod Planned
pub mod Rings
