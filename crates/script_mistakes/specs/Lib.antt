pub mod Expected
pub mod Places
pub mod Words
pub mod Short
pub mod Telling
