pub mod Linking
pub mod Ticking
