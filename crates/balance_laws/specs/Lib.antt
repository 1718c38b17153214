pub mod Balance
pub mod Move
pub mod Turns
