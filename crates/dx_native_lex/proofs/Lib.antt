pub mod Exits
pub mod PlainLaws
