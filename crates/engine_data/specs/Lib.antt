pub mod Visit
pub mod Data
