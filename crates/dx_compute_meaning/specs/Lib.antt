pub mod Answered
pub mod Expressions
pub mod Operands
pub mod Arrays
pub mod Compute
pub mod Shown
