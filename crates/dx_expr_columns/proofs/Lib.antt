pub mod Equations
pub mod Columns
pub mod SameValues
