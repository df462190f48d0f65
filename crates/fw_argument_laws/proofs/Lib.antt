pub mod Names
pub mod Reading
pub mod RichRules
pub mod Steps
