pub mod Broken
pub mod Named
pub mod Once
pub mod Rich
