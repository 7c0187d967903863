pub mod Called
pub mod Event
pub mod Sought
pub mod Takes
