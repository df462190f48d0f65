pub mod Fitting
pub mod Given
pub mod Plain
pub mod Rules
pub mod Saying
