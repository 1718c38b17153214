pub mod Laws
pub mod Parts
