pub mod Completing
mod Reordering
mod Telling
