pub mod Calls
pub mod Frame
pub mod Provisos
pub mod ProvisosMet
pub mod Shortest
pub mod Witness
