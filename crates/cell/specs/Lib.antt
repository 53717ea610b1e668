pub mod Attempts
pub mod Calls
pub mod Flags
pub mod Hearing
