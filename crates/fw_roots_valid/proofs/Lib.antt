pub mod Bound
pub mod Lists
pub mod Members
pub mod Numbered
pub mod Permanent
pub mod Reloaded
