pub mod Dispatch
pub mod Forms
pub mod Laws
pub mod Sorting
pub mod Uses
