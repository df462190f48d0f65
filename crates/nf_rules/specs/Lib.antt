pub mod Matches
pub mod Printed
pub mod Statements
