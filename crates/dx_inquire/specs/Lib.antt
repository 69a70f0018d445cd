pub mod Inquire
