pub mod Base
pub mod CutTables
pub mod Files
pub mod Mended
pub mod Mends
pub mod Same
pub mod Sizes
pub mod Sound
