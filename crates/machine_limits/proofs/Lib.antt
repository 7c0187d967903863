pub mod Values
pub mod State
pub mod Valid
pub mod Eval
pub mod Run
pub mod Play
pub mod Calls
