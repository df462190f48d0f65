pub mod Asking
pub mod Bindings
pub mod Flags
pub mod Inversion
pub mod Reading
pub mod RichRules
pub mod Settings
pub mod Told
