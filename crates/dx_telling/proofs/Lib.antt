pub mod LinkTexts
pub mod Telling
pub mod Texts
pub mod Made
