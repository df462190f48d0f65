pub mod Added
pub mod Policies
pub mod Reading
pub mod Rules
pub mod Steps
pub mod Zones
