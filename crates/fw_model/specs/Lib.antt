pub mod Codes
pub mod Outcomes
pub mod Packets
pub mod Ports
