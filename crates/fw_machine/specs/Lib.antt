pub mod Asking
pub mod Configs
pub mod Machine
pub mod Objects
pub mod Policies
pub mod Roots
pub mod Zones
