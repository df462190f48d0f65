pub mod Script
pub mod Sessions
