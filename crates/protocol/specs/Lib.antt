pub mod States
pub mod Schedule
pub mod Reading
pub mod ReadFaults
