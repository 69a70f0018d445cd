pub mod Denotes
pub mod Emptied
pub mod Getting
pub mod Holding
pub mod LinkMap
pub mod Settled
pub mod Slots
