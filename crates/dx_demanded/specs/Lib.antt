pub mod Ended
pub mod Found
pub mod Halted
pub mod Last
pub mod Ordered
pub mod Reads
pub mod Used
