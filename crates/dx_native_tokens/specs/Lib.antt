pub mod Gaps
pub mod Standing
pub mod Scripts
pub mod LineEnds
pub mod Numbers
pub mod Tokens
