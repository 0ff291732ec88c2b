pub mod Links
pub mod Later
