pub mod Ascii
pub mod Ending
pub mod Fetching
pub mod Parts
pub mod Textual
pub mod Worked
