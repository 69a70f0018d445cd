pub mod Between
pub mod Equations
pub mod Laws
