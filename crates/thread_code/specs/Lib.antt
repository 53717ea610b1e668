pub mod Fitting
pub mod Stages
pub mod Codes
