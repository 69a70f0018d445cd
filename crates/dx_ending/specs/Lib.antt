pub mod Emptying
pub mod InPlace
pub mod Putting
pub mod Terms
