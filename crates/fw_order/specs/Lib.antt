pub mod Borrowed
pub mod Order
pub mod Policies
