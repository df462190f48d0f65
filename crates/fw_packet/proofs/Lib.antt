pub mod Collecting
pub mod Ends
pub mod Texts
