pub mod Lexer
pub mod Shown
pub mod Cursor
pub mod Answer
