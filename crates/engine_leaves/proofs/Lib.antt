pub mod Words
pub mod Places
