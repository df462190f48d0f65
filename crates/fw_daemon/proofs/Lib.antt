pub mod Beginning
pub mod Left
pub mod Meeting
pub mod Ranges
pub mod Reading
pub mod Serving
