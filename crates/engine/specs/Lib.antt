pub mod Orders
pub mod Offers
pub mod States
pub mod Calls
pub mod Places
pub mod Lines
pub mod Tables
