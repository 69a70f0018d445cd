pub mod Callees
pub mod Faults
pub mod CalleeView
