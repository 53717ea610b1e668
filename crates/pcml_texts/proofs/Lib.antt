pub mod Replaying
pub mod Judging
