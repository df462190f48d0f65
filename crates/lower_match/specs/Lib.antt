pub mod Forms
pub mod Laws
pub mod Lowers
pub mod RichForms
pub mod Stands
