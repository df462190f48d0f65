pub mod Joins
pub mod Separators
