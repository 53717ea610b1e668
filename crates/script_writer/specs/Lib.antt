pub mod Plain
pub mod Canon
pub mod Texts
pub mod Sources
pub mod Laws
