pub mod Places
pub mod Most
pub mod Seen
pub mod Labels
pub mod Feet
pub mod Widths
pub mod Clear
pub mod Laid
