mod Found
mod Givers
mod Placed
mod Ports
mod Prerouted
pub mod Lines
pub mod PolicyLists
pub mod RichLists
pub mod RichRules
pub mod Sequences
pub mod Settings
pub mod Through
pub mod Turns
pub mod Unmarked
pub mod Unseen
pub mod Walks
pub mod Zones
