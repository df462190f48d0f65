pub mod Changing
pub mod LogDenied
pub mod Numbering
pub mod Reloading
