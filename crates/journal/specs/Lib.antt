pub mod Records
pub mod Concluding
