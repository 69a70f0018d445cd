pub mod Good
pub mod Marked
