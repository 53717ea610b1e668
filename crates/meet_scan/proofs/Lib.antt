pub mod Growing
pub mod Making
pub mod Reading
pub mod Scanning
