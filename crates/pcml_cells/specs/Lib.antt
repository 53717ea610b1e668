pub mod Answers
pub mod Owned
