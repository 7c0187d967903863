pub mod Laws
pub mod State
