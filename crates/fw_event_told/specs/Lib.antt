pub mod Dicts
pub mod Joined
pub mod Lines
pub mod Values
