pub mod Laws
pub mod Apart
pub mod Called
pub mod Taken
pub mod Received
pub mod Begins
