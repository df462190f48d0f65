pub mod Calls
pub mod Ipsets
pub mod Members
