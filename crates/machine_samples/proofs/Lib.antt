pub mod Plays
pub mod Starred
pub mod Traps
pub mod Leftward
pub mod NotPassed
pub mod Arrays
pub mod Classes
pub mod Limits
