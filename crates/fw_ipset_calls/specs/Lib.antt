pub mod Calls
pub mod Entries
pub mod Items
pub mod Sets
