pub mod Entries
pub mod Fewer
pub mod Lists
pub mod Settings
pub mod Zones
