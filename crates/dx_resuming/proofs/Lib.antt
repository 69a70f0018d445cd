pub mod Covers
pub mod FormedFirst
pub mod Halted
pub mod LinkTerms
pub mod Stayed
