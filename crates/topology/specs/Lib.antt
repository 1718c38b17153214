pub mod Bits
pub mod CpuSet
pub mod Node
pub mod Walk
pub mod Words
