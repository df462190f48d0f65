pub mod Laws
pub mod Panic
