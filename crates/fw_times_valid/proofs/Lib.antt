pub mod Ended
pub mod Held
pub mod Kept
pub mod Links
pub mod Ticks
