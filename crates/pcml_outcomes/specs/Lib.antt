pub mod Left
pub mod Stranding
pub mod Told
pub mod Forever
pub mod Faults
pub mod Printed
pub mod Seeking
pub mod Searching
