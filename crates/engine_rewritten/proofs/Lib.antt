pub mod Words
pub mod Rewritten
