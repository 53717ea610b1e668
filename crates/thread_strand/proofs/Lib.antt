pub mod Noting
pub mod Remembering
