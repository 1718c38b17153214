pub mod Balance
pub mod Found
pub mod Reads
pub mod Select
pub mod Steal
