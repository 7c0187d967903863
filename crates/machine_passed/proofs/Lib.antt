pub mod Records
pub mod Charts
pub mod Declared
pub mod Indices
