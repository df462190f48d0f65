pub mod Apart
pub mod Objects
pub mod Printed
pub mod Single
pub mod Texts
