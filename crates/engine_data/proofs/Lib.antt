pub mod Four
pub mod Data
