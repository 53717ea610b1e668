pub mod Laws
pub mod Meetings
pub mod Messages
