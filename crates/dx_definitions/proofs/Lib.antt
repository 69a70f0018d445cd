pub mod Finding
pub mod Noting
pub mod Indexing
pub mod Looking
pub mod Constants
