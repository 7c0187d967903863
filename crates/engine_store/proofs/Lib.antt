pub mod Lies
pub mod Puts
