pub mod Crossing
pub mod Looking
pub mod Sharing
pub mod Waking
