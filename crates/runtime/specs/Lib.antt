pub mod Between
pub mod Played
pub mod Season
pub mod Seasons
