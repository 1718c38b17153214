pub mod Donate
pub mod Queues
