pub mod Marking
pub mod Counted
