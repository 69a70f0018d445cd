pub mod Answering
pub mod Joining
pub mod Blocks
pub mod Runs
pub mod InRows
pub mod Ints
pub mod Making
