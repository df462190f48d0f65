pub mod Has
pub mod Held
pub mod Passed
pub mod Timers
