pub mod Ledgers
pub mod Behind
