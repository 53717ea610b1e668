pub mod Growing
pub mod Chains
pub mod Limits
