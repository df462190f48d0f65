pub mod Bindings
pub mod Lists
pub mod Settings
