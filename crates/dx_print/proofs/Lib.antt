pub mod Headers
pub mod Words
pub mod Ranges
pub mod NestedLaws
