pub mod Arrays
pub mod Uses
pub mod Parameters
