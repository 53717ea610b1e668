pub mod Written
pub mod Depths
pub mod Meaning
