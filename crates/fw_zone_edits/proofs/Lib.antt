pub mod Bindings
pub mod Forwards
pub mod Placed
pub mod Plain
