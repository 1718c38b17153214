pub mod Preempt
pub mod Schedule
