pub mod Erased
pub mod HandedBack
pub mod Judged
pub mod Mounted
pub mod OneBase
pub mod OneName
pub mod SameFiles
pub mod WantedThere
