pub mod Command
pub mod Lent
