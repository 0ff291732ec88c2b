pub mod Keys
pub mod Span
