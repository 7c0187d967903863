pub mod Left
pub mod Eval
pub mod Run
pub mod EventKinds
