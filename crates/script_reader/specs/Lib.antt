pub mod Places
pub mod Steps
pub mod Exprs
pub mod Blocks
pub mod Laws
