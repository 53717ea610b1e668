pub mod Hands
pub mod Positions
pub mod Lanes
pub mod Laws
pub mod Ends
