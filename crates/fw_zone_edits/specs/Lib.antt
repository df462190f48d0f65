pub mod Endings
pub mod Entries
pub mod Settings
pub mod Settled
pub mod Signals
pub mod Texts
pub mod Zones
