pub mod Fields
pub mod Request
