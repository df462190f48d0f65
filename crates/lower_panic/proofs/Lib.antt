pub mod Dropped
