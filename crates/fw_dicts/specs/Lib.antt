pub mod Bindings
pub mod Dicts
pub mod Keys
pub mod Lists
pub mod Policies
pub mod Targets
pub mod Values
pub mod Zones
