pub mod AllLooking
pub mod Coming
