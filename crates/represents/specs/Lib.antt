pub mod Grown
pub mod Linked
pub mod Queue
pub mod QueueRead
pub mod State
pub mod Topology
pub mod World
