pub mod Shape
pub mod Shapes
pub mod Value
pub mod Evaluated
pub mod Examples
pub mod Uses
