pub mod Parts
pub mod Growing
pub mod Places
pub mod Spawning
