pub mod Bytes
pub mod Table
pub mod Laws
pub mod ByWidths
