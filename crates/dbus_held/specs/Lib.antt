pub mod Ends
pub mod Strings
pub mod Elements
pub mod Holding
pub mod Lending
