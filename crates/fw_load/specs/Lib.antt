pub mod Answers
pub mod Fields
pub mod Objects
pub mod Values
