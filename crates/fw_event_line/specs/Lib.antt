pub mod Arguments
pub mod Bounds
pub mod Calls
pub mod Dicts
pub mod Events
