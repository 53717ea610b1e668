pub mod Headline
pub mod Limits
pub mod Machines
pub mod Syncs
pub mod Waiting
pub mod Workers
