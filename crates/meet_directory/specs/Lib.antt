pub mod Directory
pub mod Seats
