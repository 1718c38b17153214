pub mod Numbers
pub mod Length
pub mod Whole
