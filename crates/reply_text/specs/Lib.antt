pub mod Commas
pub mod Projected
pub mod WroteLess
