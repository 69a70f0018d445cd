pub mod References
pub mod Stray
pub mod Faults
pub mod Grids
