pub mod Stops
pub mod TurnLemmas
pub mod Turning
