pub mod Edited
pub mod Entries
pub mod PolicyEdits
pub mod ZoneEdits
