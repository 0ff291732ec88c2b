pub mod HeaderLaws
pub mod Written
