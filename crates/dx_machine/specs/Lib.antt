pub mod Agree
pub mod Covered
pub mod Machine
pub mod Sound
