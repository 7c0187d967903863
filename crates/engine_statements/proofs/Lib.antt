pub mod Bodies
pub mod Steps
