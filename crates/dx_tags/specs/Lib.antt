pub mod Closed
pub mod Digest
pub mod Files
pub mod HeldTerms
pub mod Made
pub mod NamedTerms
pub mod Whole
