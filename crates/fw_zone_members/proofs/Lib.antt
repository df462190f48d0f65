pub mod Flagged
pub mod Kept
