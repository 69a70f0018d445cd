pub mod Answered
pub mod ClauseNames
