pub mod Notes
pub mod Laws
pub mod BlockNotes
