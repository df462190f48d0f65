pub mod Policies
pub mod Zones
