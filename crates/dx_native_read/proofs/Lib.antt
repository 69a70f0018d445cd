pub mod Fitting
pub mod Naming
pub mod Whole
pub mod Stepping
pub mod Answered
pub mod Arrays
