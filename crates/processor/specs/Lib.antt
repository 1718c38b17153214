pub mod Cpu
pub mod Left
pub mod Parts
pub mod Queue
pub mod Random
pub mod Window
pub mod Word
pub mod Words
