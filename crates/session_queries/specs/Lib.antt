pub mod Finds
pub mod Folded
pub mod Replies
