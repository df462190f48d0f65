pub mod Faults
pub mod Members
pub mod Settings
pub mod SideTests
