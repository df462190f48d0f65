pub mod Bindings
pub mod Founds
pub mod Hits
pub mod Members
pub mod Plain
pub mod Rich
pub mod Services
pub mod Sources
