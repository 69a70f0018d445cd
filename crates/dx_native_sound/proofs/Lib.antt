pub mod Distinct
pub mod Clauses
