pub mod Decode
pub mod IntLaws
mod ManyLaws
