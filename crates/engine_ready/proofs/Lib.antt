pub mod Cells
pub mod Expressions
pub mod Statements
