pub mod Driving
pub mod Silence
