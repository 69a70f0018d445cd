pub mod Own
pub mod Known
