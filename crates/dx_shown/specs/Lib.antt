pub mod Session
pub mod Made
pub mod Listed
pub mod Alike
