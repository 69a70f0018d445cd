pub mod Seen
pub mod Ending
pub mod Meaning
pub mod Parts
pub mod Exits
