pub mod Packed
pub mod Steps
pub mod TableRule
