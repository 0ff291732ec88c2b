mod Cells
pub mod Fronts
