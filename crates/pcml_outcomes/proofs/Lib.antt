pub mod Showing
pub mod Asking
pub mod Marking
pub mod Clearing
pub mod Endings
pub mod Leaving
pub mod Forever
mod Faulting
mod Printing
mod Several
mod Meaning
pub mod Either
