pub mod Linking
pub mod Taking
