pub mod Starting
pub mod Greatest
pub mod Lists
pub mod Opening
pub mod Firing
pub mod Growing
pub mod Finding
pub mod Standing
pub mod Running
pub mod Extending
pub mod Counting
pub mod Sounding
mod Replaying
pub mod Ending
mod Lines
pub mod Variables
mod Listing
mod Removing
mod Covering
mod Bounding
pub mod Placing
pub mod Waking
mod Gathered
pub mod Telling
pub mod Fronts
pub mod Nacks
pub mod Stamping
mod Nexting
