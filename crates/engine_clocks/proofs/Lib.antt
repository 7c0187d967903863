pub mod Cells
pub mod Onward
