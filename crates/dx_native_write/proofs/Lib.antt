pub mod Spelling
pub mod ClassWords
pub mod ClassLines
pub mod InlineLaws
pub mod BodyLines
pub mod Walk
pub mod Entries
pub mod ReadAgain
