pub mod Ascii
pub mod Boundaries
pub mod HexLemmas
pub mod Refused
pub mod Said
pub mod TokenSteps
