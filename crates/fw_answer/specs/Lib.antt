pub mod Equal
pub mod Lists
pub mod Refusals
