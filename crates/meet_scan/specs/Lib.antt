pub mod Leaving
pub mod Searches
pub mod Steps
