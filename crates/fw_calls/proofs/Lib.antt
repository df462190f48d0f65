pub mod Capped
pub mod Tables
