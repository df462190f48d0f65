pub mod Places
pub mod Knowledge
pub mod Passes
pub mod Seats
pub mod History
pub mod Steps
pub mod Plays
