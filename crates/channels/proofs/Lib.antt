pub mod Members
pub mod Standing
pub mod Buffering
