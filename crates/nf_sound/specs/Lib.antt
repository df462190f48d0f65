pub mod Links
pub mod Names
pub mod Sound
pub mod Targets
