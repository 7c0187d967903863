pub mod Rounding
pub mod Range
pub mod Words
pub mod Stops
