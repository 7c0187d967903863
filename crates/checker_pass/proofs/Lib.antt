pub mod Times
pub mod Marking
pub mod Added
pub mod Seen
pub mod Going
