pub mod StepLemmas
pub mod TreeLemmas
