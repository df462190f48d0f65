pub mod Desks
pub mod Interfaces
pub mod Making
pub mod Rows
pub mod Signals
pub mod Table
pub mod Weight
