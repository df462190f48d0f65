pub mod Lowered
pub mod Members
pub mod Reached
pub mod Tests
pub mod RichRules
pub mod RichSides
pub mod Stand
