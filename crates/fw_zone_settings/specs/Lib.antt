pub mod Timers
pub mod Updates
