pub mod Answers
pub mod Blank
pub mod Changes
pub mod Refusals
pub mod Start
pub mod Started
pub mod Written
