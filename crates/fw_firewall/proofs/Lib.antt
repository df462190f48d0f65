pub mod None
