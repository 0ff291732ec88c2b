pub mod Does
pub mod Endings
pub mod Follows
pub mod SessionImage
pub mod Promise
pub mod Steps
