pub mod Caches
pub mod Devices
pub mod Lengths
pub mod PlainFiles
