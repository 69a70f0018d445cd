pub mod Driving
pub mod Marked
pub mod Counted
pub mod Silence
