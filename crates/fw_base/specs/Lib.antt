pub mod Adapters
pub mod Causes
pub mod Lending
pub mod Streams
pub mod Supply
