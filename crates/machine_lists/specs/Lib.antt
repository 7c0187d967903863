pub mod Words
pub mod ListCall
