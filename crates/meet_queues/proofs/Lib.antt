pub mod Ordering
pub mod Keeping
pub mod Onceness
pub mod Positioning
pub mod LaneSteps
pub mod ReadySteps
pub mod Stealing
pub mod Beginning
