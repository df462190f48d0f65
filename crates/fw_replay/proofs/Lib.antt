pub mod Behind
pub mod Proposed
