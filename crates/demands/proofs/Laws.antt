pub mod Begun
pub mod Kept
pub mod New
