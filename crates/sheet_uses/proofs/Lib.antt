pub mod Trees
pub mod Homes
pub mod Bodies
pub mod Paths
