pub mod Classes
pub mod Productions
pub mod Agreement
pub mod Wider
pub mod Nesting
pub mod Exact
pub mod Tokens
pub mod Loops
