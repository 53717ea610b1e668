mod CatchingUp
mod GoingOn
mod Keeping
mod Spent
pub mod LeadingOn
