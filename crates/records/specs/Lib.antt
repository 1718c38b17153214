pub mod Left
pub mod Rq
