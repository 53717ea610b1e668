pub mod Numerals
pub mod Cutting
pub mod Names
