pub mod Queue
pub mod Words
