pub mod CatalogFile
pub mod Catalogs
pub mod Copies
pub mod Formed
pub mod Rules
