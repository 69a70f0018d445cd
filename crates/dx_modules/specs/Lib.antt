pub mod Answer
pub mod Few
pub mod Steps
