pub mod Values
pub mod Rows
pub mod Words
