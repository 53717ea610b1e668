pub mod Machines
pub mod Widths
pub mod Windows
pub mod Workers
