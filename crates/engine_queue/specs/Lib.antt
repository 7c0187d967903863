pub mod Laid
pub mod Changed
