pub mod Identity
pub mod Table
pub mod Runs
