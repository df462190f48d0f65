mod Counted
mod Kept
mod Started
