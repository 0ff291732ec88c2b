pub mod Accepted
pub mod Composed
pub mod ImageLines
pub mod SentReplies
pub mod Single
pub mod Taken
pub mod Through
