pub mod Names
pub mod Number
pub mod Pieces
pub mod Steps
