pub mod Parsing
pub mod Shapes
pub mod Listing
pub mod Places
pub mod Making
pub mod Codes
pub mod Levels
