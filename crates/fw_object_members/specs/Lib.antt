pub mod Objects
pub mod Policies
pub mod Zones
