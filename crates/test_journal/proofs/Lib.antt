pub mod Nacks
