pub mod Lexemes
pub mod Answers
