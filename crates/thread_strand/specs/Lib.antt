pub mod Fired
pub mod Strands
