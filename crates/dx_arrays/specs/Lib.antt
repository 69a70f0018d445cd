pub mod Classes
pub mod Makes
pub mod View
pub mod Reach
pub mod Corner
pub mod Laws
pub mod Block
pub mod Kept
