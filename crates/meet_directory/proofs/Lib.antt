pub mod Bits
pub mod Keeping
pub mod Sitting
