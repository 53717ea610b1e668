pub mod Sites
pub mod Telling
