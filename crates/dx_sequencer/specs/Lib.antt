pub mod Bounds
pub mod Sequencer
pub mod Step
