pub mod Tokens
pub mod Lexemes
