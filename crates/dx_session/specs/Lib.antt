pub mod Ends
pub mod Loads
