pub mod Telling
pub mod Soundness
pub mod Starting
pub mod Forms
pub mod Steps
pub mod Plans
pub mod PlanLaws
