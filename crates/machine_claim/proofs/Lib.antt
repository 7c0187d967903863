pub mod Limit
pub mod Zeros
pub mod Runs
pub mod Claim
pub mod Machine
pub mod Kept
