pub mod Completed
pub mod Ledgers
pub mod Resting
pub mod Rows
pub mod Syncs
pub mod Trees
