pub mod Compiled
pub mod Joined
pub mod Ordered
