pub mod Items
pub mod Alternatives
pub mod Sequences
pub mod Tells
pub mod Works
pub mod Apart
pub mod Built
