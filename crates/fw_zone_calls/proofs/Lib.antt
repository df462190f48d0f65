pub mod Bindings
pub mod Inserting
pub mod InZone
pub mod Plain
