pub mod Calls
pub mod EndLine
pub mod Laws
pub mod Taken
pub mod WholeLine
pub mod Witness
