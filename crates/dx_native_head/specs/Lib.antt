pub mod Head
pub mod Many
