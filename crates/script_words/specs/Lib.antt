pub mod Keywords
pub mod Lexer
pub mod PlainNames
pub mod Words
