pub mod BuiltIn
pub mod Tests
