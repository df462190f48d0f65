pub mod Cursors
pub mod Reading
pub mod Types
pub mod Signatures
pub mod FirstFault
pub mod Letters
