pub mod Agreeing
pub mod Grows
pub mod Keeping
pub mod SameTerms
