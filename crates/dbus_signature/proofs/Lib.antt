pub mod Complete
pub mod FaultLaws
pub mod Inner
pub mod KindLaws
pub mod Loops
pub mod Sound
pub mod Stops
pub mod Whole
