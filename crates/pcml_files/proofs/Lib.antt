pub mod Reading
pub mod Emitting
