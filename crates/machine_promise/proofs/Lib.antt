pub mod Bodies
pub mod Events
pub mod Start
pub mod Reactions
pub mod Promise
