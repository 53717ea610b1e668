pub mod Following
pub mod Listing
pub mod Bare
