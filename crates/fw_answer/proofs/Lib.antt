pub mod Equality
pub mod Found
pub mod Items
pub mod Places
pub mod Rules
