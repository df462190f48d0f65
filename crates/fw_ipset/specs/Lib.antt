pub mod Entries
pub mod Keys
pub mod Lacking
pub mod Once
