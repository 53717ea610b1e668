pub mod Greatest
pub mod Placing
pub mod Lining
pub mod Digits
pub mod Labelling
pub mod Raising
pub mod Laying
pub mod Clearing
