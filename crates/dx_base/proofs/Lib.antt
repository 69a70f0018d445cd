pub mod NameTables
pub mod Tokens
pub mod AtPlaces
pub mod NameCounts
