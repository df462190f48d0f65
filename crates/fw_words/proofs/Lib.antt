pub mod Finding
pub mod KeyLemmas
pub mod Quotes
pub mod Splitting
