pub mod EndSteps
pub mod EndLaws
pub mod Eights
pub mod HeldLaws
pub mod LentLaws
