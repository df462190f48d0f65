pub mod Acting
pub mod Daemons
pub mod Opening
pub mod Outside
