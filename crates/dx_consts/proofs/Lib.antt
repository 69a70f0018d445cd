pub mod PlainInts
pub mod Members
pub mod LawfulConst
