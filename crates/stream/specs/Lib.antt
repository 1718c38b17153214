pub mod Feed
pub mod Progress
pub mod Start
