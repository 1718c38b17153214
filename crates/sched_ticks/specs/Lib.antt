pub mod Balance
pub mod Ticks
