pub mod Cuts
pub mod Mending
pub mod Shown
pub mod Superseded
