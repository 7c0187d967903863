pub mod Armed
