pub mod TopTexts
pub mod Constants
pub mod Index
pub mod Held
