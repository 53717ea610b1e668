pub mod Sight
pub mod Nacks
pub mod Views
pub mod Rule
pub mod Laws
pub mod Told
pub mod Seats
pub mod Closings
