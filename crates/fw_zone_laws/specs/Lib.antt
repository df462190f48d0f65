pub mod Entries
pub mod Settings
