pub mod WordLemmas
pub mod Equality
