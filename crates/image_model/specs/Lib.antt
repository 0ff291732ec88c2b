pub mod Images
pub mod Lacking
pub mod Mending
