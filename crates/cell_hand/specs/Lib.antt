pub mod Hands
pub mod Calls
