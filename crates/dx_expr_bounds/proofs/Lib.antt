pub mod Equations
pub mod Giving
pub mod Grammar
