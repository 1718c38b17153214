pub mod Flags
pub mod Place
pub mod Priority
pub mod Reads
pub mod Thread
pub mod Time
