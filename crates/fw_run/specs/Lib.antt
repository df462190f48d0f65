pub mod Endings
pub mod Language
pub mod Turns
