pub mod Commands
pub mod Forms
pub mod Numbers
pub mod Options
pub mod Parsers
pub mod Picking
