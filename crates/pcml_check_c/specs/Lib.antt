pub mod Answers
pub mod Scripts
pub mod Names
pub mod Journals
pub mod Outcomes
pub mod Seeking
