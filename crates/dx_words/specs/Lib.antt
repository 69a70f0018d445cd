pub mod Command
pub mod Line
pub mod Values
pub mod Range
