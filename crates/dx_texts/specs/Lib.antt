pub mod Expanding
pub mod Marks
pub mod Numbering
