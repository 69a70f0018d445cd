pub mod LawfulParts
pub mod Loadings
pub mod Splicing
pub mod Texts
