pub mod Check
pub mod Replay
pub mod Chart
pub mod Why
pub mod Next
pub mod Stats
