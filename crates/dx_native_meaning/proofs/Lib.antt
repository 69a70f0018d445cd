pub mod Somes
pub mod Levels
pub mod OneLevel
