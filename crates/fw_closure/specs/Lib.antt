pub mod Includes
pub mod Marks
