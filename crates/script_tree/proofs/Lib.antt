pub mod Texts
pub mod Crossing
pub mod Masks
pub mod Lines
