pub mod Served
pub mod Variables
pub mod Whys
pub mod Faults
