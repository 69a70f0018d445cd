pub mod Lines
pub mod Arrays
pub mod Inline
pub mod Text
