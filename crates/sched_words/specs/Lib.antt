pub mod Balance
pub mod Choose
pub mod Donate
pub mod Preempt
pub mod Rebalance
pub mod Running
pub mod Signal
pub mod Time
