pub mod Kept
pub mod Lists
pub mod OneZone
pub mod Settings
