pub mod Lists
pub mod Canonical
pub mod Lexing
pub mod Plainly
pub mod Codes
pub mod PlainTrees
