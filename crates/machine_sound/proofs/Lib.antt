pub mod Leaves
pub mod Locals
pub mod Eval
pub mod Data
pub mod Then
pub mod Armed
pub mod Run
pub mod Indices
