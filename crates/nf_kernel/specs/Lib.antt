pub mod Installed
pub mod Parts
pub mod Transactions
