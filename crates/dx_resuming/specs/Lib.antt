pub mod Covering
pub mod Formed
pub mod Halting
pub mod Links
pub mod Staying
