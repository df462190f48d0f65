pub mod Growing
pub mod Lists
pub mod Acting
pub mod There
