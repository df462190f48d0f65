pub mod Evaluates
pub mod Forms
pub mod Laws
pub mod Names
pub mod Parts
pub mod Stands
pub mod Verdicts
pub mod Work
