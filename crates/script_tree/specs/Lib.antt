pub mod Trees
pub mod Lined
pub mod Limits
pub mod Processes
pub mod Spawning
