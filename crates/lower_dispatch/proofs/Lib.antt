pub mod Dispatched
pub mod Every
pub mod Found
pub mod Led
pub mod Orders
pub mod Used
