pub mod Lookup
pub mod Chains
mod Blocks
pub mod Naming
pub mod Lines
pub mod Journals
pub mod Rules
pub mod Spelled
pub mod Running
pub mod Lining
pub mod Starting
