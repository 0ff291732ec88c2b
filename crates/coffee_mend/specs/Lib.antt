pub mod Completed
pub mod Discarded
pub mod Joined
pub mod Mended
pub mod Settling
pub mod Superseding
