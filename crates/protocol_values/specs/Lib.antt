pub mod Words
pub mod Values
pub mod Scopes
pub mod Commits
pub mod Equality
