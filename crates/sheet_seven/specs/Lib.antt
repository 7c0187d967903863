pub mod Before
pub mod Kept
