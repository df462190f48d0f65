pub mod Bindings
pub mod Members
pub mod Settings
pub mod Steps
pub mod Taken
