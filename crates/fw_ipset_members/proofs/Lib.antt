pub mod Edited
pub mod InSet
pub mod Once
pub mod Reading
