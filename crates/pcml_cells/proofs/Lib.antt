pub mod Filling
pub mod HandleSteps
pub mod InHandles
pub mod Offers
