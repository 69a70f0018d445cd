pub mod Failing
pub mod Making
pub mod Ends
