pub mod Along
pub mod Block
pub mod Fold
pub mod Going
pub mod Length
pub mod Reading
pub mod Step
pub mod Wakeups
