pub mod Ranging
