pub mod Each
pub mod Names
pub mod Policies
pub mod Riches
pub mod Rules
pub mod Sets
pub mod Valid
