pub mod Called
pub mod Counted
pub mod Stepped
