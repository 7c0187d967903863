pub mod Appending
pub mod Calls
pub mod Samples
pub mod Expressions
pub mod Statements
pub mod Events
pub mod Limit
