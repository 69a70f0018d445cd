pub mod Spelled
pub mod Numbered
pub mod Inlines
pub mod Bodies
