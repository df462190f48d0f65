pub mod Configs
pub mod Known
pub mod Services
pub mod Zones
