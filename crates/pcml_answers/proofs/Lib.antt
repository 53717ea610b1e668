pub mod Parts
pub mod Pieces
pub mod Steps
pub mod Summing
mod Counting
mod Needing
mod Rows
mod Breaking
mod Refusing
pub mod Lines
pub mod Following
mod Wording
pub mod Columns
