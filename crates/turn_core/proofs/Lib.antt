pub mod Places
pub mod Lists
pub mod Standing
pub mod KindsKeep
pub mod SplitAndJoin
pub mod Stepping
pub mod Passing
pub mod Moves
