pub mod Chosen
pub mod Memory
pub mod Select
