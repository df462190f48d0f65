pub mod Compiles
pub mod Laws
