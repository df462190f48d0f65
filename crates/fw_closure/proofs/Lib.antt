pub mod Chains
pub mod Marking
pub mod Members
pub mod Places
pub mod Walked
