pub mod Test
pub mod Marks
