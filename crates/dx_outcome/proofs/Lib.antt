pub mod Plans
pub mod Loaded
pub mod Attributes
pub mod Folding
pub mod Course
pub mod Asking
pub mod Split
pub mod Meant
