pub mod Named
pub mod Numbers
pub mod Policies
pub mod Zones
