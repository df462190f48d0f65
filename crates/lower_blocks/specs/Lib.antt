pub mod Blocks
pub mod Needed
