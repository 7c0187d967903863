pub mod ButLimit
