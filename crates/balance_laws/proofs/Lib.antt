pub mod Balance
pub mod Move
pub mod Rebalance
pub mod Rest
pub mod Stattick
pub mod Turns
