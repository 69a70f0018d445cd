pub mod Behind
pub mod Shown
pub mod Tells
pub mod AtHand
