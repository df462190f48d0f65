pub mod Parts
pub mod Settling
pub mod Starting
pub mod Valid
